-- Prices prove a division best: none in the shares totals more, and one that totals the same puts each street on a site that is tight for
-- it. And the cut: a set of sites that a street does not leave in any division that totals the same. D and E are divisions, c shares, d prices.
-- Assumes nothing.
use mathlib.Core.Path.{◌≡◌}
use mathlib.Core.Bool.{Bool, true, false}
use mathlib.Mathlib.Data.Bool.Basic.{dichotomy}
use mathlib.Core.Logic.{⊎_elim}
use mathlib.Core.List.{List, [], ◌∷◌}
use Prim.Native.Nat.{ℕ, zero, suc, ◌+◌, ◌≤◌, ◌<◌, suc-le-suc}
use native.Mathlib.Nat.{suc_inj, le_of_suc-le-suc}
use native.Mathlib.Omega.{arith}
use lib.ListN.{length}
use Rattle.counting.specs.Words.{one}
use Rattle.counting.specs.Lists.{at}
use Rattle.counting.proofs.Membership.{one_more}
use Rattle.division.specs.Prices.{Priced, Tight}
use Rattle.division.specs.Shares.{share, InShares, division_total}
use Rattle.division.proofs.Counts.{by_order, cost, in-length, has-share, division_total-even}

-- no street gains, after prices, by the move from its site in D to its site in E
abbrev pub Near : (ℕ → ℕ → ℕ) → (ℕ → ℕ) → List ℕ → List ℕ → Type 0
Near v d D E = (t : ℕ) → t < length D → d (at D t) + v t (at E t) ≤ d (at E t) + v t (at D t)

-- then all the streets together do not gain by it
pub sum-le : (v : ℕ → ℕ → ℕ) (d : ℕ → ℕ) (D E : List ℕ) → length D ≡ length E → Near v d D E
    → division_total (λ s. d) D + division_total v E ≤ division_total (λ s. d) E + division_total v D
unfolding division_total
sum-le v d [] [] e h = omega arith
sum-le v d [] (b ∷ E) e h = absurd (omega arith)
sum-le v d (a ∷ D) [] e h = absurd (omega arith)
sum-le v d (a ∷ D) (b ∷ E) e h = omega (arith, h 0 (omega arith), sum-le (λ s. v (suc s)) d D E (suc_inj e) (λ t l. h (suc t) (suc-le-suc l)))

-- and where they do not lose by it, each street is tight
pub sum-tight : (v : ℕ → ℕ → ℕ) (d : ℕ → ℕ) (D E : List ℕ) → length D ≡ length E → Near v d D E
    → division_total (λ s. d) E + division_total v D ≤ division_total (λ s. d) D + division_total v E → (t : ℕ) → t < length D → Tight v d D t (at E t)
unfolding division_total
sum-tight v d [] E e h k t l = absurd (omega arith)
sum-tight v d (a ∷ D) [] e h k t l = absurd (omega arith)
sum-tight v d (a ∷ D) (b ∷ E) e h k zero l =
    omega (arith, h 0 (omega arith), sum-le (λ s. v (suc s)) d D E (suc_inj e) (λ t l. h (suc t) (suc-le-suc l)))
sum-tight v d (a ∷ D) (b ∷ E) e h k (suc t) l =
    sum-tight (λ s. v (suc s)) d D E (suc_inj e) (λ t l. h (suc t) (suc-le-suc l)) (omega (arith, h 0 (omega arith))) t (le_of_suc-le-suc l)

-- a set R of sites that holds the site of street s, and into which no later street from outside comes without a loss
pub record Cut (v : ℕ → ℕ → ℕ) (d : ℕ → ℕ) (c D : List ℕ) (s : ℕ) (R : ℕ → Bool) : Type 0 where
  pub own-site : R (at D s) ≡ true
  pub losing : (t : ℕ) → s < t → t < length D → R (at D t) ≡ false → (b : ℕ) → 0 < share c b → R b ≡ true → d (at D t) + v t b < d b + v t (at D t)

module _ (v : ℕ → ℕ → ℕ) (d : ℕ → ℕ) (c D : List ℕ) (i : InShares D c) (p : Priced v d c D) where
  -- a division in the shares has as many streets as D
  long : (E : List ℕ) → InShares E c → length D ≡ length E
  long E j = omega (arith, in-length D c i, in-length E c j)

  -- no street gains, after prices, by the move to its site there
  near : (E : List ℕ) → InShares E c → Near v d D E
  near E j t l = p t l (at E t) (has-share E c j t (omega (arith, long E j)))

  -- a division for which prices hold is best: none in the shares totals more
  pub weak : (E : List ℕ) → InShares E c → division_total v E ≤ division_total v D
  weak E j = omega (arith, sum-le v d D E (long E j) (near E j), cost d D c i, cost d E c j)

  -- one that totals the same puts each street on a site that is tight for it
  pub tight : (E : List ℕ) → InShares E c → division_total v E ≡ division_total v D → (t : ℕ) → t < length D → Tight v d D t (at E t)
  tight E j e = sum-tight v d D E (long E j) (near E j) (omega (arith, cost d D c i, cost d E c j))

  -- the same prices hold for it
  pub priced-same : (E : List ℕ) → InShares E c → division_total v E ≡ division_total v D → Priced v d c E
  priced-same E j e t l b h = let m : t < length D = omega (arith, long E j) in omega (arith, tight E j e t m, p t m b h)

  module _ (s : ℕ) (l : s < length D) (R : ℕ → Bool) (k : Cut v d c D s R) (E : List ℕ) (j : InShares E c)
      (e : division_total v E ≡ division_total v D) (before : (t : ℕ) → t < s → at E t ≡ at D t) where
    -- no street comes into the set
    stays : (t : ℕ) → t < length D → R (at E t) ≡ true → R (at D t) ≡ true
    stays t m h =
        let held : 0 < share c (at E t) = has-share E c j t (omega (arith, long E j)) in
        let loss : s < t → R (at D t) ≡ false → ⊥ = λ a o. omega (arith, tight E j e t m, k.losing t a m o (at E t) held h) in
        by_order t s (λ b. rw (before t b) at h) (λ q. rw q k.own-site) (λ a. ⊎_elim (λ o. absurd (loss a o)) (λ y. y) (dichotomy (R (at D t))))

    -- so none leaves it, for the set's shares stay: one that totals the same, and agrees before street s, leaves s in the set
    pub cut : R (at E s) ≡ true
    cut =
        let inside : ℕ → ℕ = λ a. one (R a) in
        let free : ℕ → ℕ = λ a. 0 in
        let close : Near (λ t. inside) free D E = λ t m. omega (arith, one_more (R (at E t)) (R (at D t)) (stays t m)) in
        let same : division_total (λ t. inside) D ≡ division_total (λ t. inside) E = omega (arith, cost inside D c i, cost inside E c j) in
        let none : division_total (λ t. free) E ≡ division_total (λ t. free) D = omega (arith, division_total-even 0 D, division_total-even 0 E) in
        let even : Tight (λ t. inside) free D s (at E s) = sum-tight (λ t. inside) free D E (long E j) close (omega arith) s l in
        ⊎_elim (λ o. absurd (omega (arith, rw (o, k.own-site) at even))) (λ y. y) (dichotomy (R (at E s)))
