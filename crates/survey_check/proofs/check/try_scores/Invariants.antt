use mathlib.Core.Path.{◌≡◌}
use Rattle.counting.specs.Words.{first_nonzero}
use Rattle.survey.specs.Refusals.{score_refusal}
use Rattle.survey_check.proofs.check.try_scores.Given as goal

abbrev pub invariant-loop-i : goal.invariant-loop-i
invariant-loop-i l = first_nonzero l.i (score_refusal l.scores) ≡ 0
