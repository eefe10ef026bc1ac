use mathlib.Core.Path.{◌≡◌}
use Prim.Native.Nat.{◌≤◌, ◌*◌, max}
use Rattle.counting.specs.Words.{sum_of}
use Rattle.counting.specs.Lists.{at}
use Rattle.free_rounds.proofs.sums.weighed_sum_with.Given as goal

abbrev pub invariant-loop-s : goal.invariant-loop-s
invariant-loop-s l = (l.counted ≡ sum_of l.s (λ t. at l.weights t * max (at l.bests t) (at l.row t))) × (l.counted ≤ l.s * 99000)
