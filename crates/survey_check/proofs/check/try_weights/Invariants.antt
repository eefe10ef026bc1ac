use mathlib.Core.Path.{◌≡◌}
use Rattle.counting.specs.Words.{first_nonzero}
use Rattle.counting.specs.Lists.{at}
use Rattle.survey.specs.Refusals.{weight_refusal}
use Rattle.survey_check.proofs.check.try_weights.Given as goal

abbrev pub invariant-loop-weight : goal.invariant-loop-weight
invariant-loop-weight l = first_nonzero l.weight-index (λ i. weight_refusal (at l.weights i)) ≡ 0
