use mathlib.Core.Path.{◌≡◌}
use lib.Dec.{ltb}
use Rattle.counting.specs.Words.{◌when◌, first_nonzero}
use Rattle.counting.specs.Lists.{at}
use Rattle.loads.specs.Loads.{most_load}
use Rattle.loads.proofs.try_most.Given as goal

abbrev pub invariant-loop-load : goal.invariant-loop-load
invariant-loop-load l = first_nonzero l.load-index (λ i. 21 when ltb most_load (at l.numbers i)) ≡ 0
