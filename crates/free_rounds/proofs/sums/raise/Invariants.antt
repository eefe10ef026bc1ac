use Prim.Native.Nat.{max}
use Rattle.counting.specs.Lists.{at}
use Rattle.counting.specs.Buffers.{Mapped}
use Rattle.free_rounds.proofs.sums.raise.Given as goal

abbrev pub invariant-loop-s : goal.invariant-loop-s
invariant-loop-s l = Mapped (λ t x. max x (at l.row t)) l.initial.bests l.bests l.s
