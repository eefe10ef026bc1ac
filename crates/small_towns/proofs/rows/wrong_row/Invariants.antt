use Rattle.std.proofs.Common.{◌+◌, ◌≤◌}
use Rattle.small_towns.proofs.rows.wrong_row.Given as goal

abbrev pub invariant-loop-site : goal.invariant-loop-site
invariant-loop-site g l = (l.site ≤ 7) × (l.count ≤ 1 + l.site)
