use mathlib.Core.Path.{◌≡◌}
use Prim.Native.Nat.{ℕ, ◌<◌}
use Rattle.counting.specs.Lists.{at}
use Rattle.survey.proofs.weights.even.Given as goal

abbrev pub invariant-loop-weight : goal.invariant-loop-weight
invariant-loop-weight l = (i : ℕ) → i < l.weight-index → at l.weights i ≡ at l.weights 0
