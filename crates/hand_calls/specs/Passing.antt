-- What a hand-made plan that passes its test is: a part of the calls' promises.
-- Assumes nothing.
use Rattle.std.specs.Prelude.{◌≡◌, List, ℕ, ◌≤◌}
use Rattle.counting.specs.Sites.{Choice}
use Rattle.survey.specs.Town.{Town}
use Rattle.division.specs.Shares.{InShares}
use Rattle.plans.specs.Plans.{plan_total, shares_for, balanced_division}
use Rattle.loads.specs.Loads.{Within}
use Rattle.refusals.specs.Inputs.{HandInput}

-- a balanced hand plan of k sites that passes: a division in the shares of some list of k different sites, which totals at most as much as the best
-- one over that list
pub record SharedHand (t : Town) (k : ℕ) (division : List ℕ) : Type 0 where
  pub sites : List ℕ
  pub choice : Choice t.m k sites
  pub in-shares : InShares division (shares_for t sites)
  pub most : plan_total t division ≤ plan_total t (balanced_division t sites)

-- a hand plan of which no load or limit is refused; x is its number, and `without` the number that the same plan has without loads
pub record LoadedHand (i : HandInput) (without x : ℕ) : Type 0 where
  -- it passes only where the plan without loads passes and each site's two sums are within its limits
  pub only : x ≡ 0 → (without ≡ 0) × Within i.town.m i.loads i.division
  -- and where they are, its number is that of the plan without loads
  pub same : Within i.town.m i.loads i.division → x ≡ without
