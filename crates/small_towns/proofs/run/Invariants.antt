use Rattle.std.proofs.Common.{◌*◌, ◌≤◌}
use Rattle.small_towns.specs.Counted.{Counted}
use Rattle.small_towns.proofs.run.Given as goal

abbrev pub invariant-loop-i : goal.invariant-loop-i
invariant-loop-i g l = (l.i ≤ 3000) × Counted l.counts.sizes × (l.counts.sizes.choices ≤ 5 * l.i) × (l.counts.compared ≤ 560 * l.i) × (l.counts.differences ≤ 560 * l.i)
