use mathlib.Core.Path.{sym}
use Rattle.survey.proofs.Sound.{accepted}
use Rattle.survey_check.proofs.check.try_survey.Goals as goal

pub invariant_of-result : goal.invariant_of-result
invariant_of-result g c = record { accepted = accepted _ _ _ (sym c.in_ok-try_all.ensures) }
