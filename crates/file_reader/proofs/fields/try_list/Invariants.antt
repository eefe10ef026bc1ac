use mathlib.Core.Path.{◌≡◌}
use lib.ListN.{take}
use Rattle.counting.specs.Words.{first_nonzero}
use Rattle.counting.specs.Flags.{Flags}
use Rattle.survey_file.specs.Decode.{byte_field}
use Rattle.file_reader.proofs.fields.try_list.Given as goal

abbrev pub invariant-loop-site : goal.invariant-loop-site
invariant-loop-site l = (first_nonzero l.site-index (byte_field l.m l.list) ≡ 0) × Flags l.seen (take l.site-index l.list)
