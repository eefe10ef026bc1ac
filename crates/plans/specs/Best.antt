-- How good a balanced division is.
-- Assumes nothing.
use Rattle.std.specs.Prelude.{◌≡◌, List, ℕ, ◌≤◌}
use Rattle.survey.specs.Town.{Town}
use Rattle.division.specs.Shares.{InShares}
use Rattle.division.specs.Divide.{First}
use Rattle.plans.specs.Plans.{plan_total, shares_for}

-- a balanced division over a list of sites with the total that it reports
pub record BestDivision (t : Town) (sites division : List ℕ) (reported : ℕ) : Type 0 where
  -- each listed site has its share of the streets, and no other site has a street
  pub in-shares : InShares division (shares_for t sites)
  -- the total is the sum of the scores that the streets give their sites
  pub of-streets : reported ≡ plan_total t division
  -- every other division in the same shares totals at most as much
  pub most : (other : List ℕ) → InShares other (shares_for t sites) → plan_total t other ≤ reported
  -- of those that total as much it is the first by street and site number
  pub first : (other : List ℕ) → InShares other (shares_for t sites) → plan_total t other ≡ reported → First division other
