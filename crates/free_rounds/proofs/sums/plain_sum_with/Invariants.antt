use mathlib.Core.Path.{◌≡◌}
use Prim.Native.Nat.{◌≤◌, ◌-◌, max}
use lib.ListN.{length}
use Rattle.counting.specs.Words.{sum_of}
use Rattle.counting.specs.Lists.{at}
use Rattle.free_rounds.proofs.sums.plain_sum_with.Given as goal

abbrev pub invariant-loop-from : goal.invariant-loop-from
invariant-loop-from l = (l.from ≤ length l.bests) × (l.raised ≡ sum_of l.from (λ s. max (at l.bests s) (at l.row s)))

abbrev pub decreases-loop-from : goal.decreases-loop-from
decreases-loop-from l = length l.bests - l.from
