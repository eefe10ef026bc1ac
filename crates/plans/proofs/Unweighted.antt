-- With every weight 1, each plan, division, total and floor is what it is by the scores alone.
-- Assumes nothing.
use mathlib.Core.Path.{◌≡◌, refl, sym, ap, ◌∙◌}
use mathlib.Core.Bool.{true, false≢true}
use mathlib.Core.List.{List, []}
use Prim.Native.Nat.{ℕ, zero, suc, ◌*◌, ◌≤◌, ◌<◌}
use native.Mathlib.Nat.{one-mul}
use native.Mathlib.Omega.{arith}
use lib.ListN.{length}
use Rattle.counting.specs.Bounds.{most_value}
use Rattle.counting.specs.Lists.{at, distinct}
use Rattle.counting.specs.Sites.{Sites}
use Rattle.survey.specs.Town.{Town}
use Rattle.survey.specs.Rows.{Even, score, value, street_place}
use Rattle.survey.specs.Accepted.{Accepted}
use Rattle.survey.proofs.Lists.{place-few}
use Rattle.survey.proofs.Places.{valued-bound}
use Rattle.survey.proofs.LeastWeights.{least-ones}
use Rattle.shares.specs.Rounds.{round_share}
use Rattle.shares.proofs.Sums.{shares-all}
use Rattle.division.specs.Shares.{share_sum}
use Rattle.division.proofs.Counts.{division_total-same}
use Rattle.division.proofs.Shared.{shares_sum}
use Rattle.division.proofs.Best.{divide-same, divide-length}
use Rattle.free_plan.proofs.Valued.{AtMost, total-agree, greedy-agree, greedy-most}
use Rattle.balanced_plan.specs.Rounds.{State, place_key}
use Rattle.balanced_plan.proofs.Agree.{rounds-agree}
use Rattle.balanced_plan.proofs.CountedKeys.{counted-as-place}
use Rattle.balanced_plan.proofs.RoundShares.{rounds-plan}
use Rattle.plans.specs.Plans.{list_total, free_sites, free_plan, plan_total, shares_for, balanced_division}
use Rattle.plans.specs.Plans.{balanced_rounds, balanced_sites, balanced_plan, plan_of_kind, plan_floor, street_key}
use Rattle.plans.specs.Unweighted.{Ones, plain_total, plain_plan_total, plain_free_sites, plain_free_plan, plain_division, plain_rounds}
use Rattle.plans.specs.Unweighted.{plain_balanced_plan, plain_plan_of_kind, plain_floor}
use Rattle.plans.proofs.Orders.{even_falls}

module _ (t : Town) (ones : Ones t) where
  -- a street's value is its score
  same : (s a : ℕ) → s < t.n → value t s a ≡ score t s a
  same s a l = ap (λ (w : ℕ). w * score t s a) (ones s l) ∙ one-mul (score t s a)

  -- totals
  pub total-plain : (sites : List ℕ) → AtMost t.m sites → list_total t sites ≡ plain_total t sites
  total-plain = total-agree (value t) (score t) t.n t.m (λ s a l h. same s a l)

  pub plan-total-plain : (division : List ℕ) → length division ≡ t.n → plan_total t division ≡ plain_plan_total t division
  plan-total-plain division size = division_total-same (value t) (score t) division (λ s l. same s (at division s) (omega arith))

  -- the free plan
  free-plain : (k : ℕ) → free_plan t k ≡ plain_free_plan t k
  free-plain k =
      let none : AtMost t.m [] = λ a h. absurd (false≢true h) in
      let sites : free_sites t k ≡ plain_free_sites t k = greedy-agree (value t) (score t) t.n t.m (λ s a l h. same s a l) k [] none in
      let few : AtMost t.m (free_sites t k) = greedy-most (value t) t.n t.m k [] none in
      rw (total-plain (free_sites t k) few, sites) refl

  -- the best division over different sites of 1 to m, at least one
  pub division-plain : (sites : List ℕ) → 1 ≤ length sites → Sites t.m sites → distinct sites ≡ true
      → (balanced_division t sites ≡ plain_division t sites) × (plan_total t (balanced_division t sites) ≡ plain_plan_total t (plain_division t sites))
  division-plain sites some within apart =
      let sum : share_sum (shares_for t sites) ≡ t.n =
      shares_sum (round_share t.n (length sites)) sites t.m within apart ∙ shares-all t.n (length sites) some in
      let d : balanced_division t sites ≡ plain_division t sites = divide-same (value t) (score t) t.n (shares_for t sites) sum (λ s a l h. same s a l) in
      (d, plan-total-plain (balanced_division t sites) (divide-length (value t) t.n (shares_for t sites)) ∙ ap (plain_plan_total t) d)

  -- the floor
  pub floor-plain : 1 ≤ t.n → (k : ℕ) → plan_floor t k ≡ plain_floor t k
  floor-plain some k = ap (λ (w : ℕ). w * plain_floor t k) (least-ones t.n t.weights some ones) ∙ one-mul (plain_floor t k)

  module _ (ok : Accepted t) where
    even : Even t.weights
    even s l = ones s (omega (arith, ok.weights-fit)) ∙ sym (ones 0 (omega (arith, ok.some-street)))

    -- the rounds
    rounds-plain : (k : ℕ) → balanced_rounds t k ≡ plain_rounds t k
    rounds-plain k =
        counted-as-place (value t) (street_place t) most_value t.n t.m (λ a s l h. valued-bound ok s a) (λ a s l h. place-few t.m t.rows s a)
        (even_falls ok even) (round_share t.n k) k
        ∙ rounds-agree (value t) (score t) (place_key (street_place t) t.m) (place_key (street_place t) t.m) t.n t.m (round_share t.n k)
        (λ s a l h. same s a l) (λ a s l h. refl) k

    -- the balanced plan
    balanced-plain : (k : ℕ) → 1 ≤ k → k ≤ t.m → balanced_plan t k ≡ plain_balanced_plan t k
    balanced-plain k some few =
        let sites : balanced_sites t k ≡ (plain_rounds t k).chosen = ap (λ (state : State). state.chosen) (rounds-plain k) in
        let plan = rounds-plan (value t) (street_key t) t.n t.m (round_share t.n k) k few in
        let (division, reported) = division-plain (balanced_sites t k) (omega (arith, plan.size)) plan.sites plan.apart in
        rw (reported, division, sites) refl

    -- a plan of a kind
    pub plan-plain : (kind k : ℕ) → 1 ≤ k → k ≤ t.m → plan_of_kind kind t k ≡ plain_plan_of_kind kind t k
    plan-plain zero k some few = free-plain k
    plan-plain (suc kind) k some few = balanced-plain k some few
