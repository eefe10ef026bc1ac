-- What the calls on a given list of sites promise, each in one record, on every input. A buffer holds `after REFUSAL NEW OLD`: the new bytes where
-- the call is accepted, else what it held.
-- Assumes nothing.
use Rattle.std.specs.Prelude.{ℕ, ◌≡◌, true, List, Result}
use Rattle.counting.specs.Buffers.{after}
use Rattle.plans.specs.Plans.{list_total, free_division, plan_total, balanced_division}
use Rattle.plans.specs.Unweighted.{Ones, plain_total, plain_plan_total, plain_division}
use Rattle.plans.specs.Best.{BestDivision}
use Rattle.refusals.specs.Inputs.{ListInput, DivisionInput}
use Rattle.refusals.specs.Refusals.{list_total_refusal, free_division_refusal, balanced_division_refusal}
use Rattle.call_answers.specs.declared.Refusal.{Refusal}
use Rattle.call_answers.specs.Answers.{Told, accepts, total}

-- total of a list of sites
pub record ListTotalled (i : ListInput) (r : Result ℕ Refusal) : Type 0 where
  -- the first number that applies, or the total as in the free plan
  pub answer : Told r (list_total_refusal i) (list_total i.town i.sites)
  -- with every weight 1 it is the total of the scores
  pub plain : Ones i.town → Told r (list_total_refusal i) (plain_total i.town i.sites)

-- division of the streets over a given list of sites, free
pub record FreeDivided (i : DivisionInput) (division : List ℕ) (r : Result ℕ Refusal) : Type 0 where
  -- the first number that applies, or the total of the list
  pub answer : Told r (free_division_refusal i) (list_total i.town i.sites)
  -- each street goes to the listed site with its best place, 0 if it ranked none
  pub streets : division ≡ after (free_division_refusal i) (free_division i.town i.sites) i.division
  -- with every weight 1 the total is that of the scores; the division goes by places alone
  pub plain : Ones i.town → Told r (free_division_refusal i) (plain_total i.town i.sites)

-- or best balanced
pub record BalancedDivided (i : DivisionInput) (division : List ℕ) (r : Result ℕ Refusal) : Type 0 where
  -- the first number that applies, or the total of the division
  pub answer : Told r (balanced_division_refusal i) (plan_total i.town (balanced_division i.town i.sites))
  -- the best division, by the tie rule
  pub streets : division ≡ after (balanced_division_refusal i) (balanced_division i.town i.sites) i.division
  -- with every weight 1 both are those by the scores alone
  pub plain : Ones i.town → Told r (balanced_division_refusal i) (plain_plan_total i.town (plain_division i.town i.sites))
      × (division ≡ after (balanced_division_refusal i) (plain_division i.town i.sites) i.division)
  -- it is in the shares, none in the same shares totals more, and of equals it is the first
  pub best : accepts r ≡ true → BestDivision i.town i.sites division (total r)
