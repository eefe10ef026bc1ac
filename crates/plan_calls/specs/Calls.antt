-- What the call that makes a plan promises, and the floor, each in one record, on every input. A buffer holds `after REFUSAL NEW OLD`: the new bytes
-- where the call is accepted, else what it held.
-- Assumes nothing.
use Rattle.std.specs.Prelude.{ℕ, ◌<◌, ◌≡◌, true, List, Result}
use Rattle.counting.specs.Buffers.{after}
use Rattle.survey.specs.Rows.{least_weight, SmallestWeight}
use Rattle.survey.specs.Refusals.{survey_refusal}
use Rattle.plans.specs.Plans.{Plan, free_plan, balanced_plan, plan_of_kind, plan_floor}
use Rattle.plans.specs.Unweighted.{Ones, plain_plan_of_kind, plain_floor}
use Rattle.refusals.specs.Inputs.{SurveyInput, PlanInput}
use Rattle.refusals.specs.Refusals.{plan_refusal, free_plan_refusal, balanced_plan_refusal, floor_refusal}
use Rattle.call_answers.specs.declared.Refusal.{Refusal}
use Rattle.call_answers.specs.Answers.{Told, number, accepts, total}
use Rattle.plan_calls.specs.Good.{GoodFree, GoodBalanced}

-- the outcome of a call by its first refusal x and the plan p that it gives where it is accepted; `division` and `chosen` are what the two buffers hold
-- afterwards
pub record PlanOutcome (i : PlanInput) (x : ℕ) (p : Plan) (division chosen : List ℕ) (r : Result ℕ Refusal) : Type 0 where
  -- the number, or the total that the plan reports
  pub answer : Told r x p.reported
  -- the site of each street
  pub streets : division ≡ after x p.division i.division
  -- the K sites in order of choice
  pub sites : chosen ≡ after x p.sites i.chosen

-- the plan
pub record Planned (i : PlanInput) (division chosen : List ℕ) (r : Result ℕ Refusal) : Type 0 where
  -- the first number that applies, or the plan of the kind
  pub outcome : PlanOutcome i (plan_refusal i) (plan_of_kind i.kind i.town i.k) division chosen r
  -- for kind 0 the outcome is that of the free plan, and for kind 1 that of the balanced plan
  pub free : i.kind ≡ 0 → PlanOutcome i (free_plan_refusal i) (free_plan i.town i.k) division chosen r
  pub balanced : i.kind ≡ 1 → PlanOutcome i (balanced_plan_refusal i) (balanced_plan i.town i.k) division chosen r
  -- for any other kind it is refused: 4, if none of 1, 2 and 3 comes before it
  pub other : 1 < i.kind → number r ≡ survey_refusal i.town i.k 4
  -- with every weight 1 it is the plan by the scores alone
  pub plain : Ones i.town → PlanOutcome i (plan_refusal i) (plain_plan_of_kind i.kind i.town i.k) division chosen r
  -- free: K different sites, the two sums, the bound over every choice of K sites, and the plan's own test
  pub good-free : i.kind ≡ 0 → accepts r ≡ true → GoodFree i.town i.k division chosen (total r)
  -- balanced: K different sites, no division in the same shares totals more, at least the floor, and the plan's own test
  pub good-balanced : i.kind ≡ 1 → accepts r ≡ true → GoodBalanced i.town i.k division chosen (total r)

-- floor
pub record FloorGiven (i : SurveyInput) (r : Result ℕ Refusal) : Type 0 where
  -- the first number that applies, or the floor
  pub answer : Told r (floor_refusal i) (plan_floor i.town i.k)
  -- with every weight 1 it is the floor by the scores alone
  pub plain : Ones i.town → Told r (floor_refusal i) (plain_floor i.town i.k)
  -- the weight that it is multiplied by is no more than any street's, and some street has it
  pub factor : accepts r ≡ true → SmallestWeight i.town (least_weight i.town)
