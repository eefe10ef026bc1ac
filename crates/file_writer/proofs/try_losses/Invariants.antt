use mathlib.Core.Path.{◌≡◌}
use Rattle.counting.specs.Words.{first_nonzero}
use Rattle.counting.specs.Lists.{at}
use Rattle.survey_file.specs.Filed.{lost_refusal}
use Rattle.file_writer.proofs.try_losses.Given as goal

abbrev pub invariant-loop-weight : goal.invariant-loop-weight
invariant-loop-weight l = first_nonzero l.weight-index (λ i. lost_refusal (at l.weights i)) ≡ 0
