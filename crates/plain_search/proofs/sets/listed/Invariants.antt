use mathlib.Core.Path.{◌≡◌}
use lib.ListN.{length}
use Rattle.plain_search.proofs.sets.listed.Given as goal

abbrev pub invariant-loop-site : goal.invariant-loop-site
invariant-loop-site l = length l.set ≡ 6
