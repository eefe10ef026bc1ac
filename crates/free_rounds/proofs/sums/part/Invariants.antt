use mathlib.Core.Path.{◌≡◌}
use Prim.Native.Nat.{◌≤◌, ◌*◌, max}
use Rattle.counting.specs.Words.{sum_of}
use Rattle.counting.specs.Lists.{at}
use Rattle.free_rounds.proofs.sums.part.Given as goal

abbrev pub invariant-loop-s : goal.invariant-loop-s
invariant-loop-s l = (l.sum ≡ sum_of l.s (λ t. max (at l.bests t) (at l.row t))) × (l.sum ≤ l.s * 1000)
