-- What the rounds hand out: each round chooses a site that was not chosen and gives it its share of the free streets.
-- Assumes nothing.
use mathlib.Core.Path.{◌≡◌, sym, ◌∙◌}
use mathlib.Core.Bool.{true, false}
use mathlib.Mathlib.Data.Bool.Basic.{dichotomy, or-eq-false-eq-eq-false-and-eq-false}
use mathlib.Core.Logic.{⊎_elim}
use mathlib.Core.List.{List, [], ◌∷◌, ◌++◌}
use Prim.Native.Nat.{ℕ, zero, suc, ◌+◌, ◌*◌, ◌≤◌, ◌<◌}
use native.Mathlib.Omega.{arith}
use lib.Dec.{eqb}
use lib.ListN.{length, replicate, length-replicate}
use borrow.Author.Tests.{eqb-true}
use Rattle.counting.specs.Words.{one, sum_of}
use Rattle.counting.specs.Lists.{has, count}
use Rattle.counting.specs.Sites.{Sites, Choice}
use Rattle.counting.proofs.Membership.{sum-le}
use Rattle.counting.proofs.Sums.{sum_of-upto}
use Rattle.counting.proofs.Greatest.{unchosen-only, unchosen-greatest}
use Rattle.division.specs.Shares.{share, share_among, shares_of, InShares, division_total}
use Rattle.division.proofs.Shared.{shares-are}
use Rattle.balanced_plan.specs.Rounds.{lot, worth, choice, rounds}
use Rattle.counting.proofs.Choices.{plan-none, plan-add}
use Rattle.counting.proofs.Listed.{sum-even}
use Rattle.balanced_plan.proofs.TakenStreets.{lot-givable, lot-length, give-length, give-total, give-count}

-- a site that is chosen last has the share that comes next
among-last : (q : ℕ → ℕ) (chosen : List ℕ) (b x : ℕ) → has b chosen ≡ false
    → share_among q (chosen ++ (b ∷ [])) x ≡ share_among q chosen x + q (length chosen) * one (eqb b x)
among-last q [] b x new = ⊎_elim (λ o. rw o (omega arith)) (λ y. rw y (omega arith)) (dichotomy (eqb b x))
among-last q (c ∷ chosen) b x new =
    let (other, out) = (or-eq-false-eq-eq-false-and-eq-false (eqb b c) (has b chosen)).0 new in
    let away : eqb c x ≡ true → eqb b x ≡ false = λ y. rw (eqb-true c x y) at other in
    let first : (list : List ℕ) → eqb c x ≡ true → share_among q (c ∷ list) x ≡ q 0 = λ list y. rw y in
    ⊎_elim (λ o. rw o (among-last (λ i. q (suc i)) chosen b x out))
    (λ y. rw (away y) (omega (arith, first chosen y, first (chosen ++ (b ∷ [])) y))) (dichotomy (eqb c x))

-- site 0 has no share
among-nobody : (q : ℕ → ℕ) (chosen : List ℕ) (m : ℕ) → Sites m chosen → share_among q chosen 0 ≡ 0
unfolding share
among-nobody q chosen m w = sym (shares-are q chosen m w 0)

-- at the start each street is free
count-start : (n x : ℕ) → count (replicate n 0) x ≡ n * one (eqb 0 x)
unfolding count
count-start zero x = omega arith
count-start (suc n) x = omega (arith, count-start n x)

module _ (v key : ℕ → ℕ → ℕ) (n m : ℕ) (q : ℕ → ℕ) where
  -- the sites after i rounds
  abbrev pub sites_after : ℕ → List ℕ
  sites_after i = (rounds v key n m q i).chosen

  -- the division after i rounds
  abbrev pub division_after : ℕ → List ℕ
  division_after i = (rounds v key n m q i).division

  -- the site that the next round chooses
  abbrev pub next_site : ℕ → ℕ
  next_site i = choice v key m (q i) (rounds v key n m q i)

  -- the next site is one of 1 to m that is not chosen yet
  next-new : (i : ℕ) → Choice m i (sites_after i) → i < m → (0 < next_site i) × (next_site i ≤ m) × (has (next_site i) (sites_after i) ≡ false)
  next-new i p l =
      let c = unchosen-greatest (sites_after i) (worth v key (q i) (division_after i)) m (omega (arith, p.size)) in
      let (low, new) = unchosen-only (sites_after i) (next_site i) c.passes in
      (low, c.upto, new)

  -- i rounds choose i different sites of 1 to m
  pub rounds-plan : (i : ℕ) → i ≤ m → Choice m i (sites_after i)
  unfolding rounds
  rounds-plan zero l = plan-none
  rounds-plan (suc i) l =
      let p = rounds-plan i (omega arith) in
      let (low, high, new) = next-new i p l in
      plan-add p (next_site i) low high new

  -- the division is one of all n streets
  pub rounds-length : (i : ℕ) → length (division_after i) ≡ n
  unfolding rounds
  rounds-length zero = length-replicate n 0
  rounds-length (suc i) = give-length (next_site i) (lot key (q i) (division_after i) (next_site i)) (division_after i) ∙ rounds-length i

  -- a round adds to the total the worth of the site that it chooses, where a street without a site scores 0
  pub rounds-gain : ((s : ℕ) → v s 0 ≡ 0) → (i : ℕ)
      → division_total v (division_after (suc i)) ≡ division_total v (division_after i) + worth v key (q i) (division_after i) (next_site i)
  unfolding rounds
  rounds-gain zeros i =
      let streets : List ℕ = lot key (q i) (division_after i) (next_site i) in
      omega (
        arith,
        give-total v (next_site i) streets (division_after i) (lot-givable key (q i) (division_after i) (next_site i)),
        sum-le (λ s. v s 0) (λ s. 0) streets (λ s h. omega (arith, zeros s)),
        sum-even 0 streets,
      )

  module _ (k : ℕ) (few : k ≤ m) (whole : sum_of k q ≡ n) where
    -- after i rounds each chosen site has its share, and the streets that are left have no site
    rounds-count : (i : ℕ) → i ≤ k → (x : ℕ) → count (division_after i) x + sum_of i q * one (eqb 0 x) ≡ n * one (eqb 0 x) + share_among q (sites_after i) x
    unfolding rounds
    rounds-count zero l x = omega (arith, count-start n x)
    rounds-count (suc i) l x =
        let p = rounds-plan i (omega arith) in
        let (low, high, new) = next-new i p (omega arith) in
        let none : share_among q (sites_after i) 0 ≡ 0 = among-nobody q (sites_after i) m p.sites in
        let left : q i ≤ count (division_after i) 0 = omega (arith, rounds-count i (omega arith) 0, none, sum_of-upto q (suc i) k l) in
        let streets : List ℕ = lot key (q i) (division_after i) (next_site i) in
        let size : length streets ≡ q i = lot-length key (q i) (division_after i) (next_site i) left in
        omega (
          arith,
          rw size at (give-count (next_site i) x streets (division_after i) (lot-givable key (q i) (division_after i) (next_site i))),
          rw p.size at (among-last q (sites_after i) (next_site i) x new),
          rounds-count i (omega arith) x,
        )

    -- the free streets after i rounds are those that the other rounds will give
    pub rounds-free : (i : ℕ) → i ≤ k → count (division_after i) 0 + sum_of i q ≡ n
    rounds-free i l = omega (arith, rounds-count i l 0, among-nobody q (sites_after i) m (rounds-plan i (omega arith)).sites)

    -- the rounds' division is in the shares
    pub rounds-in : InShares (division_after k) (shares_of q (sites_after k) m)
    rounds-in x =
        let p = rounds-plan k few in
        omega (arith, rw whole at (rounds-count k (omega arith) x)) ∙ sym (shares-are q (sites_after k) m p.sites x)
