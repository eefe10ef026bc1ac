-- Laws of the key by counted score: comparing keys is comparing counted scores, highest first, and then places; values never rise along its order;
-- and where they never rise along the order by place either, it is that order.
-- Assumes nothing.
use mathlib.Core.Path.{◌≡◌, refl, sym, ap, ◌∙◌}
use mathlib.Core.Logic.{inl, inr, ⊎_elim, ◌↔◌}
use Prim.Native.Nat.{ℕ, ◌+◌, ◌-◌, ◌≤◌, ◌<◌}
use native.Mathlib.Nat.{eq-or-lt_of_le}
use native.Mathlib.Decide.{dec_lt}
use native.Mathlib.Omega.{arith}
use lib.Dec.{ltb}
use borrow.Author.Tests.{lt-ltb, le-ltb}
use Rattle.counting.proofs.Digits.{first-digit, two_digits, same_digits}
use Rattle.balanced_plan.specs.Rounds.{rounds, place_key, counted_key}
use Rattle.balanced_plan.specs.Falling.{ComesFirst, FallsBy, CompareAlike}
use Rattle.balanced_plan.proofs.Keys.{key-most}
use Rattle.balanced_plan.proofs.Agree.{rounds-alike}

-- the place as a key is a digit to the base m + 2
pub place-small : (place : ℕ → ℕ → ℕ) (m a s : ℕ) → place s a ≤ m → place_key place m a s < m + 2
place-small place m a s l = omega (arith, key-most place m a s l)

-- ---- two streets at a site
module _ (v place : ℕ → ℕ → ℕ) (most m a s t : ℕ) (s-value : v s a ≤ most) (t-value : v t a ≤ most) (s-place : place s a ≤ m)
    (t-place : place t a ≤ m) where
  -- a street with the higher counted score has the lower key, even one that is unranked
  score-first : v t a < v s a → counted_key v place most m a s < counted_key v place most m a t
  score-first l =
      let below : most - v s a < most - v t a = omega arith in
      let small : place_key place m a s < m + 2 = place-small place m a s s-place in
      omega (arith, first-digit (m + 2) (most - v s a) (most - v t a) (place_key place m a s) (place_key place m a t) small below)

  -- the lower key is that of the street that comes first
  pub counted-first : (counted_key v place most m a s < counted_key v place most m a t) ↔ ComesFirst v place m a s t
  counted-first =
      let (there, back) = two_digits (m + 2) (most - v s a) (most - v t a) (place_key place m a s) (place_key place m a t)
      (place-small place m a s s-place) (place-small place m a t t-place) in (
        λ h. ⊎_elim (λ l. inl (omega arith)) (λ e. inr (omega (arith, e.0), e.1)) (there h),
        ⊎_elim score-first (λ e. back (inr (ap (λ (x : ℕ). most - x) e.0, e.1))),
      )

  -- only streets that are equal in both have the same key
  pub counted_same : counted_key v place most m a s ≡ counted_key v place most m a t → (v s a ≡ v t a) × (place_key place m a s ≡ place_key place m a t)
  counted_same h =
      let (e, q) = same_digits (m + 2) (most - v s a) (most - v t a) (place_key place m a s) (place_key place m a t)
      (place-small place m a s s-place) (place-small place m a t t-place) h in
      (omega (arith, e), q)

  -- who comes first scores no less
  pub counted-falls : counted_key v place most m a s ≤ counted_key v place most m a t → v t a ≤ v s a
  counted-falls h = go (dec_lt (counted_key v place most m a s) (counted_key v place most m a t))
    where
      go : Dec (counted_key v place most m a s < counted_key v place most m a t) → v t a ≤ v s a
      go (yes l) = ⊎_elim (λ k. omega arith) (λ e. omega (arith, e.0)) (counted-first.0 l)
      go (no o) = omega (arith, (counted_same (omega arith)).0)

-- any bound of the values gives the same order
pub counted-any-most : (v place : ℕ → ℕ → ℕ) (m a s t most other : ℕ) → v s a ≤ most → v t a ≤ most → v s a ≤ other → v t a ≤ other
    → place s a ≤ m → place t a ≤ m
    → ltb (counted_key v place most m a s) (counted_key v place most m a t) ≡ ltb (counted_key v place other m a s) (counted_key v place other m a t)
counted-any-most v place m a s t most other h i j k x y = go (dec_lt K L)
  where
    K : ℕ
    K = counted_key v place most m a s

    L : ℕ
    L = counted_key v place most m a t

    K' : ℕ
    K' = counted_key v place other m a s

    L' : ℕ
    L' = counted_key v place other m a t

    one : (K < L) ↔ ComesFirst v place m a s t
    one = counted-first v place most m a s t h i x y

    two : (K' < L') ↔ ComesFirst v place m a s t
    two = counted-first v place other m a s t j k x y

    go : Dec (K < L) → ltb K L ≡ ltb K' L'
    go (yes l) = lt-ltb K L l ∙ sym (lt-ltb K' L' (two.1 (one.0 l)))
    go (no o) =
        let not : K' < L' → ⊥ = λ l. o (one.1 (two.0 l)) in
        le-ltb K L (omega arith) ∙ sym (le-ltb K' L' (omega arith))

-- ---- n streets and the sites up to m
module _ (v place : ℕ → ℕ → ℕ) (most n m : ℕ) (small : (a s : ℕ) → a ≤ m → s < n → v s a ≤ most)
    (ranks : (a s : ℕ) → a ≤ m → s < n → place s a ≤ m) where
  -- values fall along the order of the key, whatever they are
  pub counted-falling : FallsBy (counted_key v place most m) v n m
  counted-falling a s t l i j h = counted-falls v place most m a s t (small a s l i) (small a t l j) (ranks a s l i) (ranks a t l j) h

  -- where they fall along the order by place, both keys compare alike
  module _ (falls : FallsBy (place_key place m) v n m) where
    pub counted-alike : CompareAlike (counted_key v place most m) (place_key place m) n m
    counted-alike a s t l i j = go (dec_lt p r) (dec_lt r p)
      where
        p : ℕ
        p = place_key place m a s

        r : ℕ
        r = place_key place m a t

        K : ℕ
        K = counted_key v place most m a s

        L : ℕ
        L = counted_key v place most m a t

        forth : ComesFirst v place m a s t → K < L
        forth = (counted-first v place most m a s t (small a s l i) (small a t l j) (ranks a s l i) (ranks a t l j)).1

        back : ComesFirst v place m a t s → L < K
        back = (counted-first v place most m a t s (small a t l j) (small a s l i) (ranks a t l j) (ranks a s l i)).1

        go : Dec (p < r) → Dec (r < p) → ltb K L ≡ ltb p r
        go (yes h) d =
            let first : K < L = ⊎_elim (λ e. forth (inr (sym e, h))) (λ k. forth (inl k)) (eq-or-lt_of_le (falls a s t l i j (omega arith))) in
            lt-ltb K L first ∙ sym (lt-ltb p r h)
        go (no o) (yes h) =
            let first : L < K = ⊎_elim (λ e. back (inr (sym e, h))) (λ k. back (inl k)) (eq-or-lt_of_le (falls a t s l j i (omega arith))) in
            le-ltb K L (omega arith) ∙ sym (le-ltb p r (omega arith))
        go (no o) (no q) =
            let e : p ≡ r = omega arith in
            let x : v s a ≡ v t a = omega (arith, falls a t s l j i (omega arith), falls a s t l i j (omega arith)) in
            let y : K ≡ L = rw (x, e) refl in
            le-ltb K L (omega arith) ∙ sym (le-ltb p r (omega arith))

    -- so both give the same rounds
    pub counted-as-place : (q : ℕ → ℕ) (k : ℕ) → rounds v (counted_key v place most m) n m q k ≡ rounds v (place_key place m) n m q k
    counted-as-place q k = rounds-alike v v (counted_key v place most m) (place_key place m) n m q (λ s a l h. refl) counted-alike k
