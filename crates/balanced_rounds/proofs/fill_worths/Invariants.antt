use Rattle.counting.specs.Buffers.{Mapped}
use Rattle.balanced_rounds.specs.Worth.{line_worth}
use Rattle.balanced_rounds.proofs.fill_worths.Given as goal

abbrev pub invariant-loop-a : goal.invariant-loop-a
invariant-loop-a l = Mapped (λ b x. line_worth l.table l.division l.flags l.q b) l.initial.worths l.worths l.a
