-- Laws of the best division: it is in the shares, none in the shares totals more, of those that total the same it is first in dictionary
-- order, and a division with these three properties is the best division.
-- Assumes nothing.
use mathlib.Core.Path.{◌≡◌, refl, sym, ap, ◌∙◌}
use mathlib.Core.Bool.{true}
use mathlib.Core.Logic.{◌⊎◌, inl, inr, ⊎_elim}
use mathlib.Core.List.{List, [], ◌∷◌}
use Prim.Native.Nat.{ℕ, zero, suc, ◌≤◌, ◌<◌}
use native.Mathlib.Nat.{eq-or-lt_of_le, le_antisymm}
use native.Mathlib.Omega.{arith}
use lib.ListN.{length}
use borrow.Author.Tests.{ltb-true, lt-ltb}
use Rattle.counting.specs.Lists.{at, count}
use Rattle.counting.specs.Greatest.{greatest}
use Rattle.counting.proofs.Greatest.{Chosen, greatest-of}
use Rattle.division.specs.Shares.{share, less, InShares, division_total, share_sum}
use Rattle.division.specs.Divide.{left, reach, divide, First}
use Rattle.division.proofs.Counts.{by_order, dot-less, share-fits, share-none, share-some, division_total-same}
use Rattle.division.proofs.Counts.{in_head, in_tail, in-cons, in-length, has-share}

-- one division beats another: it totals more, or as much and is first in dictionary order
abbrev pub Beats : (ℕ → ℕ → ℕ) → List ℕ → List ℕ → Type 0
Beats v B D = (division_total v D < division_total v B) ⊎ ((division_total v D ≡ division_total v B) × First B D)

-- where a site has a share, the first street's site is chosen among those that have one
chosen : (v : ℕ → ℕ → ℕ) (rest : List ℕ → List ℕ) (c : List ℕ) (a : ℕ) → 0 < share c a
    → Chosen (left c) (reach v rest c) (length c) (greatest (left c) (reach v rest c) (length c))
chosen v rest c a h = greatest-of (left c) (reach v rest c) (length c) a (share-fits c a h) (lt-ltb 0 (share c a) h)

-- the best division is in the shares, where they sum to the number of streets
pub divide-in : (v : ℕ → ℕ → ℕ) (k : ℕ) (c : List ℕ) → share_sum c ≡ k → InShares (divide v k c) c
unfolding divide count
divide-in v zero c e = λ a. sym (share-none c e a)
divide-in v (suc k) c e =
    let rest : List ℕ → List ℕ = divide (λ s. v (suc s)) k in
    let g : ℕ = greatest (left c) (reach v rest c) (length c) in
    let (a, l) = share-some c (omega arith) in
    let h : 0 < share c g = ltb-true 0 (share c g) (chosen v rest c (suc a) l).passes in
    in-cons g (rest (less c g)) c h (divide-in (λ s. v (suc s)) k (less c g) (omega (arith, dot-less (λ a. 1) c g h)))

-- one that beats another totals at least as much
beats-most : (v : ℕ → ℕ → ℕ) (B D : List ℕ) → Beats v B D → division_total v D ≤ division_total v B
beats-most v B D (inl l) = omega arith
beats-most v B D (inr (t, f)) = omega arith

-- it still does with the same site in front of both
beats-same : (v : ℕ → ℕ → ℕ) (a : ℕ) (B D : List ℕ) → Beats (λ s. v (suc s)) B D → Beats v (a ∷ B) (a ∷ D)
unfolding division_total
beats-same v a B D (inl l) = inl (omega arith)
beats-same v a B D (inr (t, f)) = inr (omega arith, inr (refl, f))

-- the best division of the streets of D beats D
divide-beats : (v : ℕ → ℕ → ℕ) (c D : List ℕ) → InShares D c → Beats v (divide v (length D) c) D
unfolding divide division_total
divide-beats v c [] i = inr (refl, tt)
divide-beats v c (b ∷ D) i =
    let rest : List ℕ → List ℕ = divide (λ s. v (suc s)) (length D) in
    let g : ℕ = greatest (left c) (reach v rest c) (length c) in
    let h : 0 < share c b = in_head b D c i in
    let p : left c b ≡ true = lt-ltb 0 (share c b) h in
    let best : Chosen (left c) (reach v rest c) (length c) g = chosen v rest c b h in
    let again : Beats (λ s. v (suc s)) (rest (less c b)) D = divide-beats (λ s. v (suc s)) (less c b) D (in_tail b D c i) in
    let reached : division_total v (b ∷ D) ≤ reach v rest c b = omega (arith, beats-most (λ s. v (suc s)) (rest (less c b)) D again) in
    let most : division_total v (b ∷ D) ≤ reach v rest c g = omega (arith, best.most b (share-fits c b h) p) in
    let below : b < g → Beats v (g ∷ rest (less c g)) (b ∷ D) = λ l. inl (omega (arith, best.first b l p)) in
    let same : b ≡ g → Beats v (g ∷ rest (less c g)) (b ∷ D) = λ q. rw (← q) (beats-same v b (rest (less c b)) D again) in
    by_order b g below same (λ l. ⊎_elim (λ t. inr (t, inl l)) inl (eq-or-lt_of_le most))

-- two divisions that are each first of the two are the same
first-both : (B D : List ℕ) → First B D → First D B → B ≡ D
first-both [] [] f g = refl
first-both (a ∷ B) (b ∷ D) (inl l) (inl m) = absurd (omega arith)
first-both (a ∷ B) (b ∷ D) (inl l) (inr (e, g)) = absurd (omega arith)
first-both (a ∷ B) (b ∷ D) (inr (e, f)) (inl m) = absurd (omega arith)
first-both (a ∷ B) (b ∷ D) (inr (e, f)) (inr (q, g)) = rw (e, first-both B D f g)
first-both [] (b ∷ D) f g = elim g [ ]
first-both (a ∷ B) [] f g = elim f [ ]

-- the best division is one of all k streets
pub divide-length : (v : ℕ → ℕ → ℕ) (k : ℕ) (c : List ℕ) → length (divide v k c) ≡ k
unfolding divide
divide-length v zero c = refl
divide-length v (suc k) c = ap suc (divide-length (λ s. v (suc s)) k _)

module _ (v : ℕ → ℕ → ℕ) (k : ℕ) (c : List ℕ) (sum : share_sum c ≡ k) where
  -- it beats each division in the shares
  beats : (D : List ℕ) → InShares D c → Beats v (divide v k c) D
  beats D i = rw (in-length D c i ∙ sum) at (divide-beats v c D i)

  -- every division in the shares totals at most as much
  pub divide-most : (D : List ℕ) → InShares D c → division_total v D ≤ division_total v (divide v k c)
  divide-most D i = beats-most v (divide v k c) D (beats D i)

  -- of those that total the same it is first in dictionary order
  pub divide-first : (D : List ℕ) → InShares D c → division_total v D ≡ division_total v (divide v k c) → First (divide v k c) D
  divide-first D i e = ⊎_elim (λ l. absurd (omega arith)) (λ (t, f). f) (beats D i)

  -- a division in the shares that totals at least as much as every other, and is first among equals, is the best division
  pub divide-only : (D : List ℕ) → InShares D c → ((E : List ℕ) → InShares E c → division_total v E ≤ division_total v D)
      → ((E : List ℕ) → InShares E c → division_total v E ≡ division_total v D → First D E) → D ≡ divide v k c
  divide-only D i most first =
      let b : InShares (divide v k c) c = divide-in v k c sum in
      let e : division_total v (divide v k c) ≡ division_total v D = le_antisymm (most (divide v k c) b) (divide-most D i) in
      first-both D (divide v k c) (first (divide v k c) b e) (divide-first D i (sym e))

-- the best division goes by what the streets give the sites that have a share
pub divide-same : (v w : ℕ → ℕ → ℕ) (k : ℕ) (c : List ℕ) → share_sum c ≡ k → ((s a : ℕ) → s < k → 0 < share c a → v s a ≡ w s a)
    → divide v k c ≡ divide w k c
divide-same v w k c sum same =
    let B : List ℕ = divide v k c in
    let b : InShares B c = divide-in v k c sum in
    divide-only w k c sum B b (λ E i. omega (arith, total E i, total B b, divide-most v k c sum E i)) (λ E i e. divide-first v k c sum E i (even E i e))
  where
    total : (D : List ℕ) → InShares D c → division_total v D ≡ division_total w D
    total D i = division_total-same v w D (λ s l. same s (at D s) (omega (arith, in-length D c i)) (has-share D c i s l))

    even : (E : List ℕ) → InShares E c → division_total w E ≡ division_total w (divide v k c) → division_total v E ≡ division_total v (divide v k c)
    even E i e = omega (arith, total E i, total (divide v k c) (divide-in v k c sum))
