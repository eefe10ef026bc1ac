use Rattle.counting.specs.Lists.{at}
use Rattle.counting.specs.Buffers.{Mapped}
use Rattle.compact.proofs.columns.fill_row.Given as goal

abbrev pub invariant-loop-j : goal.invariant-loop-j
invariant-loop-j l = Mapped (λ i x. at l.values (at l.sites i)) l.initial.row l.row l.j
