use lib.ListN.{drop}
use Rattle.counting.specs.Lists.{at}
use Rattle.counting.specs.Buffers.{Mapped}
use Rattle.survey_file.specs.Decode.{list_in}
use Rattle.file_filling.proofs.fill_row.Given as goal

abbrev pub invariant-loop-j : goal.invariant-loop-j
invariant-loop-j l = Mapped (λ i x. at (list_in (drop l.from l.file)) i) l.initial.row l.row l.j
