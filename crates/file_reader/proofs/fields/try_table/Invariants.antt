use mathlib.Core.Path.{◌≡◌}
use Rattle.counting.specs.Words.{first_nonzero}
use Rattle.file_reader.specs.Fields.{score_field}
use Rattle.file_reader.proofs.fields.try_table.Given as goal

abbrev pub invariant-loop-i : goal.invariant-loop-i
invariant-loop-i l = first_nonzero l.i (score_field l.rest) ≡ 0
