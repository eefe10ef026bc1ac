-- The tie rule, street by street: no best division has a lower site at the first street where it differs, up to a street, then up to the next,
-- and at the end the division is the best one.
-- Assumes nothing.
use mathlib.Core.Path.{◌≡◌, sym, ◌∙◌}
use mathlib.Core.Bool.{Bool, true}
use mathlib.Core.Logic.{inl, inr, ⊎_elim}
use mathlib.Core.List.{List, [], ◌∷◌}
use Prim.Native.Nat.{ℕ, zero, suc, ◌≤◌, ◌<◌, suc-le-suc}
use native.Mathlib.Nat.{suc_inj, eq-or-lt_of_le, le_of_suc-le-suc}
use native.Mathlib.Omega.{arith}
use lib.ListN.{length}
use Rattle.counting.specs.Lists.{at}
use Rattle.division.specs.Prices.{Priced, Tight, Agree, FirstTo}
use Rattle.division.specs.Shares.{share, InShares, division_total}
use Rattle.division.specs.Divide.{divide, First}
use Rattle.division.proofs.Counts.{in-length, has-share}
use Rattle.division.proofs.Best.{divide-only}
use Rattle.division.proofs.Dual.{Cut, weak, tight, cut}

-- what a turn at street s makes of D: it keeps the total and the streets before s, and puts s on the lowest site of the cut that is tight for it
pub record Step (v : ℕ → ℕ → ℕ) (d : ℕ → ℕ) (c D : List ℕ) (s : ℕ) (R : ℕ → Bool) (E : List ℕ) : Type 0 where
  pub total : division_total v E ≡ division_total v D
  pub before : Agree D E s
  pub low : (b : ℕ) → R b ≡ true → 0 < share c b → Tight v d D s b → at E s ≤ b

-- before the first street there is nothing to say
pub first-start : (v : ℕ → ℕ → ℕ) (c D : List ℕ) → FirstTo v c D 0
first-start v c D E j e t l = absurd (omega arith)

-- divisions agree with equal sites in front
agree-cons : (a b : ℕ) (D E : List ℕ) (t : ℕ) → a ≡ b → Agree D E t → Agree (a ∷ D) (b ∷ E) (suc t)
agree-cons a b D E t e g zero l = sym e
agree-cons a b D E t e g (suc u) l = g u (le_of_suc-le-suc l)

-- one that has no higher site at the first street where they differ is first in dictionary order
first-agree : (D E : List ℕ) → length D ≡ length E → ((t : ℕ) → t < length D → Agree D E t → at D t ≤ at E t) → First D E
first-agree [] E e h = tt
first-agree (a ∷ D) [] e h = absurd (omega arith)
first-agree (a ∷ D) (b ∷ E) e h =
    let low : a ≤ b = h 0 (omega arith) (λ u l. absurd (omega arith)) in
    let rest : a ≡ b → First D E = λ q. first-agree D E (suc_inj e) (λ t l g. h (suc t) (suc-le-suc l) (agree-cons a b D E t q g)) in
    ⊎_elim (λ q. inr (q, rest q)) inl (eq-or-lt_of_le low)

module _ (v : ℕ → ℕ → ℕ) (d : ℕ → ℕ) (c D : List ℕ) (i : InShares D c) (p : Priced v d c D) where
  -- a turn at street s settles it
  pub first_step : (s : ℕ) → s < length D → (R : ℕ → Bool) → Cut v d c D s R → (E : List ℕ) → Step v d c D s R E → FirstTo v c D s
      → FirstTo v c E (suc s)
  first_step s l R k E step f F j e t m g =
      let same : division_total v F ≡ division_total v D = e ∙ step.total in
      let agree : Agree D F t = λ u n. g u n ∙ step.before u (omega arith) in
      let held : 0 < share c (at F s) = has-share F c j s (omega (arith, in-length D c i, in-length F c j)) in
      let lowest : Agree D F s → at E s ≤ at F s = λ a. step.low (at F s) (cut v d c D i p s l R k F j same a) held (tight v d c D i p F j same s l) in
      let settled : t < s → at E t ≤ at F t = λ n. rw (step.before t n) (f F j same t n agree) in
      ⊎_elim (λ q. rw q (lowest (rw q at agree))) settled (eq-or-lt_of_le (le_of_suc-le-suc m))

  -- a division for which prices hold, and that is first to the last street, is the best division
  pub first-best : FirstTo v c D (length D) → D ≡ divide v (length D) c
  first-best f =
      let long : (E : List ℕ) → InShares E c → length D ≡ length E = λ E j. in-length D c i ∙ sym (in-length E c j) in
      divide-only v (length D) c (sym (in-length D c i)) D i (weak v d c D i p) (λ E j e. first-agree D E (long E j) (f E j e))
