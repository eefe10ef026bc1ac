-- What the test of a hand-made plan promises, in one record, on every input.
-- Assumes nothing.
use Rattle.std.specs.Prelude.{ℕ, ◌<◌, ◌≡◌, true, Result}
use Rattle.survey.specs.Refusals.{survey_refusal}
use Rattle.plans.specs.Plans.{plan_total}
use Rattle.plans.specs.Unweighted.{Ones, plain_plan_total}
use Rattle.refusals.specs.Inputs.{HandInput}
use Rattle.refusals.specs.Refusals.{LoadNumbers, load_numbers, no_loads, LoadsTaken, hand_by, hand_refusal, free_hand_by, balanced_hand_by}
use Rattle.call_answers.specs.declared.Refusal.{Refusal}
use Rattle.call_answers.specs.Answers.{Told, number, accepts}
use Rattle.hand_calls.specs.Passing.{LoadedHand, SharedHand}

-- the outcome of a test by its chain of tries
pub record HandOutcome (chain : LoadNumbers → HandInput → ℕ) (i : HandInput) (r : Result ℕ Refusal) : Type 0 where
  -- the first number that applies, or the plan's total
  pub answer : Told r (chain (load_numbers i.town i.division i.loads) i) (plan_total i.town i.division)
  -- with no load or limit refused, it passes exactly where it passes without loads and each site's two sums are within its limits
  pub loaded : LoadsTaken i.town i.loads → LoadedHand i (chain no_loads i) (number r)

-- test of a hand-made plan
pub record HandTested (i : HandInput) (r : Result ℕ Refusal) : Type 0 where
  -- by the chain of its kind
  pub outcome : HandOutcome hand_by i r
  -- for kind 0 the outcome is that of the free plan's test, and for kind 1 that of the balanced plan's
  pub free : i.kind ≡ 0 → HandOutcome free_hand_by i r
  pub balanced : i.kind ≡ 1 → HandOutcome balanced_hand_by i r
  -- for any other kind it is refused: 4, if none of 1, 2 and 3 comes before it
  pub other : 1 < i.kind → number r ≡ survey_refusal i.town i.k 4
  -- with every weight 1 the total is that of the scores
  pub plain : Ones i.town → Told r (hand_refusal i) (plain_plan_total i.town i.division)
  -- a balanced plan that passes is a division in the shares of some K sites
  pub shared : i.kind ≡ 1 → accepts r ≡ true → SharedHand i.town i.k i.division
