use Rattle.file_filling.proofs.FilledFronts.{Filling}
use Rattle.file_filling.proofs.fill_rows.Given as goal

abbrev pub invariant-loop-s : goal.invariant-loop-s
invariant-loop-s l = Filling l.fn.taken.file.now l.initial.rows l.rows l.s l.from
