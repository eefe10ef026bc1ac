-- The plans of a town by its scores alone, with no weights, as document 01 has them: what each plan is where every street has the weight 1.
-- Assumes nothing.
use Rattle.std.specs.Prelude.{ℕ, ◌<◌, ◌≡◌, List, []}
use Rattle.counting.specs.Lists.{at}
use Rattle.survey.specs.Town.{Town}
use Rattle.survey.specs.ByKind.{by_kind}
use Rattle.survey.specs.Rows.{street_place, score_at, score, shortest}
use Rattle.free_plan.specs.Greedy.{total, greedy}
use Rattle.shares.specs.Rounds.{round_share}
use Rattle.division.specs.Shares.{division_total}
use Rattle.division.specs.Divide.{divide}
use Rattle.balanced_plan.specs.Rounds.{State, rounds, place_key}
use Rattle.balanced_plan.specs.Floor.{floor}
use Rattle.plans.specs.Plans.{Plan, free_division, shares_for}

-- every street has the weight 1
abbrev pub Ones : Town → Type 0
Ones t = (s : ℕ) → s < t.n → at t.weights s ≡ 1

-- total of a list of sites, and of a division
abbrev pub plain_total : Town → List ℕ → ℕ
plain_total t sites = total (score t) t.n sites

abbrev pub plain_plan_total : Town → List ℕ → ℕ
plain_plan_total t division = division_total (score t) division

-- the free plan of k sites
abbrev pub plain_free_sites : Town → ℕ → List ℕ
plain_free_sites t k = greedy (score t) t.n t.m k []

abbrev pub plain_free_plan : Town → ℕ → Plan
plain_free_plan t k =
    record { sites = plain_free_sites t k; division = free_division t (plain_free_sites t k); reported = plain_total t (plain_free_sites t k) }

-- the best balanced division over a list of sites
abbrev pub plain_division : Town → List ℕ → List ℕ
plain_division t sites = divide (score t) t.n (shares_for t sites)

-- the balanced plan of k sites: in its rounds the streets are ordered by place, then by number
abbrev pub plain_rounds : Town → ℕ → State
plain_rounds t k = rounds (score t) (place_key (street_place t) t.m) t.n t.m (round_share t.n k) k

abbrev pub plain_balanced_sites : Town → ℕ → List ℕ
plain_balanced_sites t k = (plain_rounds t k).chosen

abbrev pub plain_balanced_plan : Town → ℕ → Plan
plain_balanced_plan t k =
    record {
      sites = plain_balanced_sites t k;
      division = plain_division t (plain_balanced_sites t k);
      reported = plain_plan_total t (plain_division t (plain_balanced_sites t k));
    }

-- the plan of k sites of a kind
abbrev pub plain_plan_of_kind : ℕ → Town → ℕ → Plan
plain_plan_of_kind kind t k = by_kind kind (plain_free_plan t k) (plain_balanced_plan t k)

-- the floor
abbrev pub plain_floor : Town → ℕ → ℕ
plain_floor t k = floor (round_share t.n k) (score_at t.scores) (shortest t) t.m k
