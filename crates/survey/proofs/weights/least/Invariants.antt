use mathlib.Core.Path.{◌≡◌}
use Rattle.survey.specs.Rows.{least_of}
use Rattle.survey.proofs.weights.least.Given as goal

abbrev pub invariant-loop-weight : goal.invariant-loop-weight
invariant-loop-weight l = l.least ≡ least_of l.weight-index l.weights
