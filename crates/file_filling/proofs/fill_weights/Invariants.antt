use mathlib.Core.Bool.{cond}
use Prim.Native.Nat.{◌+◌, ◌≤◌}
use Rattle.counting.specs.Lists.{at}
use Rattle.counting.specs.Buffers.{Mapped}
use Rattle.file_filling.proofs.fill_weights.Given as goal

abbrev pub invariant-loop-i : goal.invariant-loop-i
invariant-loop-i l = (l.i ≤ l.n) × Mapped (λ j x. cond l.new_form (at l.file (l.from + j)) 1) l.initial.weights l.weights l.i
