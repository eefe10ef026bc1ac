-- Laws of the table of the sites' numbers of streets, and of the two tests that a hand plan's sites are put to.
-- Assumes nothing.
use mathlib.Core.Path.{◌≡◌, refl, ap, ◌∙◌}
use mathlib.Core.Bool.{Bool, true, false, not}
use mathlib.Mathlib.Data.Bool.Basic.{dichotomy}
use mathlib.Core.Logic.{⊎_elim}
use mathlib.Core.List.{List, []}
use Prim.Native.Nat.{ℕ, zero, suc, ◌+◌, ◌-◌, ◌≤◌, ◌<◌}
use native.Mathlib.Nat.{eq-zero-or-pos}
use native.Mathlib.Numerals.{add-one}
use native.Mathlib.Omega.{arith}
use lib.Dec.{ltb, eqb}
use lib.ListN.{length, take, drop, length-drop}
use Rattle.std.specs.List.{count_by}
use Rattle.std.proofs.lemmas.List.{get_or-drop}
use Rattle.std.proofs.lemmas.List.Sums.{count_by_more_yes, count_by_more_no}
use borrow.Author.Tests.{lt-ltb, le-ltb, eq-eqb, ne_eqb}
use Rattle.counting.specs.Words.{◌when◌, ◌unless◌, one, count_of}
use Rattle.counting.specs.Lists.{at, count}
use Rattle.counting.proofs.Listed.{count_most}
use Rattle.counting.proofs.Sums.{sum_of-same}
use Rattle.division.specs.Shares.{division_total}
use Rattle.division.proofs.Counts.{by_order, division_total-suc}
use Rattle.loads.specs.Sums.{Summed}
use Rattle.loads.proofs.SiteSums.{streets-sum}
use Rattle.refusals.specs.Refusals.{sites_with}
use Rattle.hand_plans.specs.Counts.{between}

-- ---- the table
-- the library's count of a list's numbers is the count over its indices
counted : (p : ℕ → Bool) (xs : List ℕ) (m : ℕ) → m ≤ length xs → count_by p (take m xs) ≡ count_of m (λ a. p (at xs a))
counted p xs zero l = refl
counted p xs (suc m) l =
    let before : count_by p (take m xs) ≡ count_of m (λ a. p (at xs a)) = counted p xs m (omega arith) in
    ⊎_elim (λ t. omega (arith, rw add-one at (count_by_more_no p xs m 0 (omega arith) t), before, ap one t))
    (λ t. omega (arith, rw add-one at (count_by_more_yes p xs m 0 (omega arith) t), before, ap one t)) (dichotomy (p (at xs m)))

pub counted-from : (p : ℕ → Bool) (counts : List ℕ) (m : ℕ) → m + 1 ≤ length counts
    → count_by p (take (m + 1 - 1) (drop 1 counts)) ≡ count_of m (λ a. p (at counts (suc a)))
counted-from p counts m l =
    let back : m + 1 - 1 ≡ m = omega arith in
    let next : (a : ℕ) → at (drop 1 counts) a ≡ at counts (suc a) = λ a. get_or-drop 1 counts a 0 ∙ ap (at counts) (omega arith) in
    rw back (counted p (drop 1 counts) m (omega (arith, length-drop 1 counts)) ∙ sum_of-same m _ _ (λ a k. ap (λ (x : ℕ). one (p x)) (next a)))

-- what the table says of the sites is said of the division
sites-counted : (counts division : List ℕ) (m : ℕ) (test : ℕ → Bool) → m ≤ 64 → Summed (λ s. 1) counts division
    → count_of m (λ i. test (at counts (suc i))) ≡ sites_with test m division
sites-counted counts division m test few h =
    sum_of-same m _ _ (λ i l. ap (λ (x : ℕ). one (test x)) (h.right (suc i) (omega arith) ∙ streets-sum division (suc i)))

-- ---- the two tests
-- tests that agree on each number up to the number of streets pass the same sites
sites-same : (f g : ℕ → Bool) (m : ℕ) (division : List ℕ) → ((x : ℕ) → x ≤ length division → f x ≡ g x) → sites_with f m division ≡ sites_with g m division
sites-same f g m division same = sum_of-same m _ _ (λ i l. ap one (same (count division (suc i)) (count_most division (suc i))))

-- a site with at least 1 street and at most all of them is used
used-sites : (m : ℕ) (division : List ℕ) → sites_with (between 1 (length division)) m division ≡ sites_with (ltb 0) m division
used-sites m division = sites-same _ (ltb 0) m division (λ x l. ⊎_elim (none x (length division)) (some x (length division) l) (eq-zero-or-pos x))
  where
    none : (x n : ℕ) → x ≡ 0 → between 1 n x ≡ ltb 0 x
    none x n e = rw (lt-ltb x 1 (omega arith), le-ltb 0 x (omega arith)) refl

    some : (x n : ℕ) → x ≤ n → 0 < x → between 1 n x ≡ ltb 0 x
    some x n h l = rw (le-ltb x 1 l, le-ltb n x h, lt-ltb 0 x l) refl

-- a site with at least and at most a share has that share
share-sites : (q m : ℕ) (division : List ℕ) → sites_with (between q q) m division ≡ sites_with (eqb q) m division
share-sites q m division = sites-same (between q q) (eqb q) m division (λ x l. by_order q x (more x) (same x) (less x))
  where
    more : (x : ℕ) → q < x → between q q x ≡ eqb q x
    more x l = rw (le-ltb x q (omega arith), lt-ltb q x l, ne_eqb q x (λ e. omega arith)) refl

    same : (x : ℕ) → q ≡ x → between q q x ≡ eqb q x
    same x e = rw (le-ltb x q (omega arith), le-ltb q x (omega arith), eq-eqb q x e) refl

    less : (x : ℕ) → x < q → between q q x ≡ eqb q x
    less x l = rw (lt-ltb x q l, ne_eqb q x (λ e. omega arith)) refl

-- both tests by the table
module _ (counts division : List ℕ) (m x : ℕ) (few : m ≤ 64) (h : Summed (λ s. 1) counts division) where
  pub used-counted : x ≡ count_of m (λ i. between 1 (length division) (at counts (suc i))) → x ≡ sites_with (ltb 0) m division
  used-counted e = e ∙ sites-counted counts division m (between 1 (length division)) few h ∙ used-sites m division

  pub share-counted : (q : ℕ) → x ≡ count_of m (λ i. between q q (at counts (suc i))) → x ≡ sites_with (eqb q) m division
  share-counted q e = e ∙ sites-counted counts division m (between q q) few h ∙ share-sites q m division

-- a number that is refused where it is not the one that is due
pub when-not : (x : ℕ) (t : Bool) → x when not t ≡ x unless t
unfolding ◌when◌ ◌unless◌
when-not x true = refl
when-not x false = refl

-- ---- the total
-- no street is added yet
pub total-none : (v : ℕ → ℕ → ℕ) → 0 ≡ division_total v []
unfolding division_total
total-none v = refl

module _ (v : ℕ → ℕ → ℕ) (division : List ℕ) where
  -- one street more
  pub total-more : (s total x : ℕ) → s < length division → total ≡ division_total v (take s division) → x ≡ v s (at division s)
      → total + x ≡ division_total v (take (s + 1) division)
  total-more s total x l e q = rw add-one (omega (arith, division_total-suc v division s l))
