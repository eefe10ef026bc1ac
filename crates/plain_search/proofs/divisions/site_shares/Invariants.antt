use mathlib.Core.Path.{◌≡◌}
use lib.ListN.{length}
use Rattle.plain_search.proofs.divisions.site_shares.Given as goal

abbrev pub invariant-loop-i : goal.invariant-loop-i
invariant-loop-i l = length l.shares ≡ 6
