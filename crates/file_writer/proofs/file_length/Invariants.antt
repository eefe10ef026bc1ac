use Rattle.survey_file.specs.Decode.{weights_size}
use Rattle.file_writer.proofs.Encoded.{Sized}
use Rattle.file_writer.proofs.file_length.Given as goal

abbrev pub invariant-loop-s : goal.invariant-loop-s
invariant-loop-s l = let t = l.town in Sized (weights_size l.new_form t.n) t.m t.rows.now l.s l.size
