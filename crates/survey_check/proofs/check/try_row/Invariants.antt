use mathlib.Core.Path.{◌≡◌}
use lib.ListN.{take}
use Rattle.counting.specs.Words.{first_nonzero}
use Rattle.counting.specs.Flags.{Flags}
use Rattle.survey.specs.Refusals.{byte_refusal}
use Rattle.survey_check.proofs.check.try_row.Given as goal

abbrev pub invariant-loop-site : goal.invariant-loop-site
invariant-loop-site l = (first_nonzero l.site-index (byte_refusal l.m l.row) ≡ 0) × Flags l.seen (take l.site-index l.row)
