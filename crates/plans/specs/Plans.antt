-- The plans of a town: the theory's definitions at the town's values, in document 01's order. An engine says by these what it gives, and a call
-- what it gives where it is accepted.
-- Assumes nothing.
use Rattle.std.specs.Prelude.{ℕ, ◌*◌, List, [], length}
use Rattle.counting.specs.Lists.{has}
use Rattle.counting.specs.Buffers.{list_of}
use Rattle.survey.specs.Town.{Town}
use Rattle.survey.specs.ByKind.{by_kind}
use Rattle.counting.specs.Bounds.{most_value}
use Rattle.survey.specs.Rows.{list_of_street, street_place, score_at, value, shortest, least_weight}
use Rattle.free_plan.specs.Greedy.{total, greedy, goes_to}
use Rattle.shares.specs.Rounds.{round_share}
use Rattle.division.specs.Shares.{division_total, shares_of}
use Rattle.division.specs.Divide.{divide}
use Rattle.balanced_plan.specs.Rounds.{State, rounds, counted_key}
use Rattle.balanced_plan.specs.Floor.{floor}

-- total of a list of sites
abbrev pub list_total : Town → List ℕ → ℕ
list_total t sites = total (value t) t.n sites

-- the free division over a list of sites
abbrev pub free_division : Town → List ℕ → List ℕ
free_division t sites = list_of t.n (λ s. goes_to (λ a. has a sites) (list_of_street t s))

-- the free plan's sites, in order of choice; its division and total are those of this list
abbrev pub free_sites : Town → ℕ → List ℕ
free_sites t k = greedy (value t) t.n t.m k []

-- the total of a division: a hand plan's too, where site 0 scores 0
abbrev pub plan_total : Town → List ℕ → ℕ
plan_total t division = division_total (value t) division

-- the shares of the sites of a list: the i-th of them has the share of round i
abbrev pub shares_for : Town → List ℕ → List ℕ
shares_for t sites = shares_of (round_share t.n (length sites)) sites t.m

-- the best balanced division over a list of sites
abbrev pub balanced_division : Town → List ℕ → List ℕ
balanced_division t sites = divide (value t) t.n (shares_for t sites)

-- the key by which a round orders the streets for a site: by counted score, highest first, then by place; `ComesFirst` says that order
abbrev pub street_key : Town → ℕ → ℕ → ℕ
street_key t = counted_key (value t) (street_place t) most_value t.m

-- the balanced plan after its rounds; its sites are these, and its division the best one over them
abbrev pub balanced_rounds : Town → ℕ → State
balanced_rounds t k = rounds (value t) (street_key t) t.n t.m (round_share t.n k) k

abbrev pub balanced_sites : Town → ℕ → List ℕ
balanced_sites t k = (balanced_rounds t k).chosen

-- the total that the balanced plan reports: that of its division
abbrev pub balanced_total : Town → ℕ → ℕ
balanced_total t k = plan_total t (balanced_division t (balanced_sites t k))

-- a plan: its sites in order of choice, the site of each street, and the total that it reports
pub record Plan : Type 0 where
  pub sites : List ℕ
  pub division : List ℕ
  pub reported : ℕ

-- the free plan of k sites
abbrev pub free_plan : Town → ℕ → Plan
free_plan t k = record { sites = free_sites t k; division = free_division t (free_sites t k); reported = list_total t (free_sites t k) }

-- the balanced plan of k sites
abbrev pub balanced_plan : Town → ℕ → Plan
balanced_plan t k = record { sites = balanced_sites t k; division = balanced_division t (balanced_sites t k); reported = balanced_total t k }

-- the plan of k sites of a kind
abbrev pub plan_of_kind : ℕ → Town → ℕ → Plan
plan_of_kind kind t k = by_kind kind (free_plan t k) (balanced_plan t k)

-- the floor, times the smallest weight
abbrev pub plan_floor : Town → ℕ → ℕ
plan_floor t k = least_weight t * floor (round_share t.n k) (score_at t.scores) (shortest t) t.m k
