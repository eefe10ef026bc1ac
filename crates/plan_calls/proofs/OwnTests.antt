-- Our plans pass their own tests: the division over k different sites, free or in the rounds' shares, with its total is an accepted hand plan.
-- Assumes nothing.
use mathlib.Core.Path.{◌≡◌, refl, sym, ap, ◌∙◌}
use mathlib.Core.Bool.{true}
use mathlib.Core.Logic.{⊎_elim}
use mathlib.Core.List.{List}
use Prim.Native.Nat.{ℕ, zero, suc, ◌≤◌, ◌<◌, zero-le}
use native.Mathlib.Nat.{eq-zero-or-pos}
use native.Mathlib.Omega.{arith}
use lib.Dec.{ltb, eqb}
use lib.ListN.{length}
use borrow.Author.Tests.{ltb-true}
use Rattle.counting.specs.Words.{one, count_of}
use Rattle.counting.specs.Lists.{at, has, count}
use Rattle.counting.specs.Sites.{Choice}
use Rattle.counting.proofs.Sums.{list_of-length, list_of-at, sum_of-same, sum_of-le, has-index}
use Rattle.counting.proofs.Membership.{one_more}
use Rattle.counting.proofs.Listed.{count-has}
use Rattle.survey.specs.Town.{Town}
use Rattle.survey.specs.Rows.{list_of_street, value}
use Rattle.survey.specs.Refusals.{share_refusal, survey_refusal}
use Rattle.survey.proofs.Sound.{accepted, chosen-within}
use Rattle.shares.specs.Rounds.{least_share, round_share}
use Rattle.shares.proofs.Sums.{larger-rounds, least-rounds, least-some}
use Rattle.division.specs.Shares.{share, InShares}
use Rattle.division.proofs.Counts.{share-fits, has-share}
use Rattle.division.proofs.Shared.{shares-length, shares-are, share-count, listed-count}
use Rattle.division.proofs.Best.{divide-length}
use Rattle.free_plan.specs.Greedy.{goes_to}
use Rattle.free_plan.proofs.Sites.{goes-chosen}
use Rattle.free_results.proofs.Scored.{served-total}
use Rattle.refusals.specs.Refusals.{sites_with}
use Rattle.refusals.proofs.Listed.{enough}
use Rattle.refusals.proofs.ByKind.{free-tries, balanced-tries}
use Rattle.refusals.proofs.Passed.{hand-passes, used-none, shares-none, loads-same}
use Rattle.refusals.specs.Inputs.{hand_of}
use Rattle.plans.specs.Plans.{list_total, free_division, plan_total, shares_for, balanced_division}
use Rattle.plan_calls.specs.Good.{PassesTest}

module _ (t : Town) (k own : ℕ) (ok : survey_refusal t k own ≡ 0) (sites : List ℕ) (plan : Choice t.m k sites) where
  -- ---- the free division
  -- where a street goes
  abbrev goes : ℕ → ℕ
  goes s = goes_to (λ a. has a sites) (list_of_street t s)

  -- a site with a street is one of the list
  used : (i : ℕ) → ltb 0 (count (free_division t sites) (suc i)) ≡ true → has (suc i) sites ≡ true
  used i h =
      let list : List ℕ = free_division t sites in
      let (s, l, e) = has-index (suc i) list (count-has list (suc i) (ltb-true 0 (count list (suc i)) h)) in
      let here : goes s ≡ suc i = sym (list_of-at t.n goes s (omega (arith, list_of-length t.n goes))) ∙ e in
      rw here at (goes-chosen (list_of_street t s) sites (rw here (omega arith)))

  -- so at most k are used
  few : sites_with (ltb 0) t.m (free_division t sites) ≤ k
  few =
      omega (
        arith,
        sum_of-le t.m _ (λ i. one (has (suc i) sites)) (λ i l. one_more _ (has (suc i) sites) (used i)),
        listed-count sites t.m plan.sites plan.apart,
        plan.size,
      )

  -- no site is above m
  low : (s : ℕ) → s < t.n → at (free_division t sites) s ≤ t.m
  low s l =
      rw (list_of-at t.n goes s l)
      (⊎_elim (λ z. omega (arith, z)) (λ p. (plan.sites (goes s) (goes-chosen (list_of_street t s) sites p)).1) (eq-zero-or-pos (goes s)))

  -- the free division with the total of the sites passes
  pub free-list-passes : PassesTest 0 t k (free_division t sites) (list_total t sites)
  free-list-passes loads taken w =
      let i = hand_of t k 0 (free_division t sites) (list_total t sites) loads in
      loads-same i taken w
      ∙ hand-passes i own ok (list_of-length t.n goes) (sym (served-total t sites (accepted t k own ok).sound-scores)) (free-tries 0 t.n k refl)
      (λ s l. (zero-le, low s l)) (used-none i few)

  -- ---- the balanced division
  module _ (passes : share_refusal t.n k ≡ 0) (in-shares : InShares (balanced_division t sites) (shares_for t sites)) where
    -- the division
    abbrev D : List ℕ
    D = balanced_division t sites

    -- it is one of all streets
    length-D : length D ≡ t.n
    length-D = divide-length (value t) t.n (shares_for t sites)

    -- a site with a share is one of 1 to m
    served : (a : ℕ) → 0 < share (shares_for t sites) a → (0 < a) × (a ≤ t.m)
    unfolding share
    served zero h = absurd (omega arith)
    served (suc a) h = (omega arith, omega (arith, share-fits (shares_for t sites) (suc a) h, shares-length (round_share t.n (length sites)) sites t.m))

    -- so many sites have a share, above 0, as rounds have it
    shared : (x : ℕ) → 0 < x → sites_with (eqb x) t.m D ≡ count_of k (λ i. eqb x (round_share t.n k i))
    shared x some =
        sum_of-same t.m _ _ (λ i l. ap (λ (y : ℕ). one (eqb x y)) (in-shares (suc i) ∙ shares-are q sites t.m plan.sites (suc i)))
        ∙ share-count x some q sites t.m plan.sites plan.apart
        ∙ ap (λ (j : ℕ). count_of j (λ i. eqb x (round_share t.n j i))) plan.size
      where
        q : ℕ → ℕ
        q = round_share t.n (length sites)

    -- k is one of 1 to n
    some-site : 0 < k
    some-site = (chosen-within t k own ok).0

    some_share : 0 < least_share t.n k
    some_share = least-some t.n k some-site (enough t.n k passes)

    -- the balanced division with its own total passes
    pub balanced-list-passes : PassesTest 1 t k (balanced_division t sites) (plan_total t (balanced_division t sites))
    balanced-list-passes loads taken w =
        let i = hand_of t k 1 D (plan_total t D) loads in
        loads-same i taken w
        ∙ hand-passes i own ok length-D refl (balanced-tries 1 t.n k refl ∙ passes)
        (λ s l. served (at D s) (has-share D (shares_for t sites) in-shares s (omega (arith, length-D))))
        (shares-none i (shared (suc (least_share t.n k)) (omega arith) ∙ larger-rounds t.n k some-site)
        (shared (least_share t.n k) some_share ∙ least-rounds t.n k some-site))
