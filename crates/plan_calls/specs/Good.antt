-- How good a plan is, said of what its call gave back: a part of the calls' promises.
-- Assumes nothing.
use Rattle.std.specs.Prelude.{◌≡◌, List, ℕ, ◌-◌, ◌*◌, ◌^◌, ◌≤◌}
use Rattle.counting.specs.Sites.{Choice}
use Rattle.survey.specs.Town.{Town}
use Rattle.plans.specs.Plans.{list_total, plan_total, plan_floor}
use Rattle.plans.specs.Order.{ByCountedScore}
use Rattle.plans.specs.Best.{BestDivision}
use Rattle.loads.specs.Loads.{Loads, Within}
use Rattle.refusals.specs.Inputs.{hand_of}
use Rattle.refusals.specs.Refusals.{LoadsTaken, hand_refusal}

-- a plan of a kind passes the test of a hand plan of that kind, whatever its streets bring, if no load or limit is refused and each site's two sums are
-- within its limits
abbrev pub PassesTest : ℕ → Town → ℕ → List ℕ → ℕ → Type 0
PassesTest kind t k division reported =
    (loads : Loads) → LoadsTaken t loads → Within t.m loads division → hand_refusal (hand_of t k kind division reported loads) ≡ 0

-- a free plan of k sites with the total that it reports
pub record GoodFree (t : Town) (k : ℕ) (division chosen : List ℕ) (reported : ℕ) : Type 0 where
  -- the sites are k different ones of 1 to m
  pub sites : Choice t.m k chosen
  -- the total is that of the sites, and the sum of the counted scores that the streets give the sites they go to
  pub of-sites : reported ≡ list_total t chosen
  pub of-streets : reported ≡ plan_total t division
  -- no choice of k sites is better by more than the bound says: K ^ K * (T - S) ≤ (K - 1) ^ K * T
  pub bound : (other : List ℕ) → Choice t.m k other → k ^ k * (list_total t other - reported) ≤ (k - 1) ^ k * list_total t other
  -- the plan passes the test of a free hand plan
  pub passes : PassesTest 0 t k division reported

-- a balanced plan of k sites with the total that it reports
pub record GoodBalanced (t : Town) (k : ℕ) (division chosen : List ℕ) (reported : ℕ) : Type 0 where
  -- the sites are k different ones of 1 to m
  pub sites : Choice t.m k chosen
  -- in each round the streets came by counted score, highest first, then by place, then by number
  pub order : ByCountedScore t
  -- the division is the best one over them in the rounds' shares, and the total is its own
  pub best : BestDivision t chosen division reported
  -- the total is at least the floor
  pub floor : plan_floor t k ≤ reported
  -- the plan passes the test of a balanced hand plan
  pub passes : PassesTest 1 t k division reported
