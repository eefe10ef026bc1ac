-- The best division does not depend on the sites' numbers but for their order: f gives each site that has a share in c a number that has the same
-- share in d, g leads from the numbers back to the sites, and rises. Sites without a share need no number.
-- Assumes nothing.
use mathlib.Core.Path.{◌≡◌, refl, sym, ap, ◌∙◌}
use mathlib.Core.Logic.{inl, inr, by_cases}
use mathlib.Core.List.{List, [], ◌∷◌, map}
use Prim.Native.Nat.{ℕ, suc, ◌≤◌, ◌<◌, suc-le-suc}
use native.Mathlib.Decide.{ℕ_discrete, dec_lt}
use native.Mathlib.Omega.{arith}
use lib.Dec.{eqb}
use lib.ListN.{length, length-map}
use borrow.Author.Tests.{eq-eqb, ne_eqb}
use Rattle.counting.specs.Words.{one}
use Rattle.counting.specs.Lists.{at, count}
use Rattle.division.specs.Shares.{share, InShares, division_total, share_sum}
use Rattle.division.specs.Divide.{divide, First}
use Rattle.division.proofs.Counts.{count-total, division_total-same, division_total-even, in-length, has-share}
use Rattle.division.proofs.Best.{divide-in, divide-length, divide-most, divide-first, divide-only}

-- each site with a share in c has the same share in d under its new number, and g leads back
abbrev pub Onto : (ℕ → ℕ) → (ℕ → ℕ) → List ℕ → List ℕ → Type 0
Onto f g c d = (a : ℕ) → 0 < share c a → (share d (f a) ≡ share c a) × (g (f a) ≡ a)

-- the total of a renumbered division
pub total-map : (v : ℕ → ℕ → ℕ) (f : ℕ → ℕ) (D : List ℕ) → division_total v (map f D) ≡ division_total (λ s a. v s (f a)) D
unfolding division_total
total-map v f [] = refl
total-map v f (a ∷ D) = omega (arith, total-map (λ s. v (suc s)) f D)

-- there and back again
map_back : (f g : ℕ → ℕ) (D : List ℕ) → ((s : ℕ) → s < length D → g (f (at D s)) ≡ at D s) → map g (map f D) ≡ D
map_back f g [] h = refl
map_back f g (a ∷ D) h = rw (h 0 (omega arith), map_back f g D (λ s l. h (suc s) (suc-le-suc l))) refl

-- a renumbering that rises keeps the dictionary order
first-map : (g : ℕ → ℕ) (d D E : List ℕ) → ((x y : ℕ) → x < y → 0 < share d x → 0 < share d y → g x < g y)
    → ((s : ℕ) → s < length D → 0 < share d (at D s)) → ((s : ℕ) → s < length E → 0 < share d (at E s)) → First D E → First (map g D) (map g E)
first-map g d [] E rises h k f = tt
first-map g d (a ∷ D) [] rises h k f = absurd f
first-map g d (a ∷ D) (b ∷ E) rises h k (inl l) = inl (rises a b l (h 0 (omega arith)) (k 0 (omega arith)))
first-map g d (a ∷ D) (b ∷ E) rises h k (inr (e, f)) =
    inr (ap g e, first-map g d D E rises (λ s l. h (suc s) (suc-le-suc l)) (λ s l. k (suc s) (suc-le-suc l)) f)

module _ (f g : ℕ → ℕ) (c d : List ℕ) (there : Onto f g c d) (back : Onto g f d c) where
  -- of the sites with a share only one has the number x
  one_number : (a x : ℕ) → 0 < share c a → 0 < share d x → eqb (f a) x ≡ eqb a (g x)
  one_number a x h k =
      by_cases (ℕ_discrete a (g x)) (λ q. eq-eqb (f a) x (ap f q ∙ (back x k).1) ∙ sym (eq-eqb a (g x) q))
      (λ n. ne_eqb (f a) x (λ q. n (sym (there a h).1 ∙ ap g q)) ∙ sym (ne_eqb a (g x) n))

  -- a division in the shares goes over into one in the renumbered shares
  pub in_map : (D : List ℕ) → InShares D c → InShares (map f D) d
  in_map D i x =
      by_cases (dec_lt 0 (share d x))
      (λ k. counted (g x) (λ s l. ap one (one_number (at D s) x (has-share D c i s l) k)) ∙ i (g x) ∙ (back x k).0)
      (λ n. omega (arith, none n))
    where
      -- how often x stands in the renumbered division, as a total over the sites
      over : count (map f D) x ≡ division_total (λ s a. one (eqb (f a) x)) D
      over = count-total (map f D) x ∙ total-map (λ s a. one (eqb a x)) f D

      -- as often as a site y does whose number x is
      counted : (y : ℕ) → ((s : ℕ) → s < length D → one (eqb (f (at D s)) x) ≡ one (eqb (at D s) y)) → count (map f D) x ≡ count D y
      counted y h = over ∙ division_total-same _ _ D h ∙ sym (count-total D y)

      -- a number without a share is no site's, and does not stand in it
      away : (0 < share d x → ⊥) → (a : ℕ) → 0 < share c a → one (eqb (f a) x) ≡ 0
      away n a h = ap one (ne_eqb (f a) x (λ q. n (omega (arith, rw q at (there a h).0))))

      none : (0 < share d x → ⊥) → count (map f D) x ≡ 0
      none n = omega (arith, over, division_total-same (λ s a. one (eqb (f a) x)) (λ s a. 0) D (λ s l. away n (at D s) (has-share D c i s l)), division_total-even 0 D)

module _ (f g : ℕ → ℕ) (c d : List ℕ) (there : Onto f g c d) (back : Onto g f d c) (v : ℕ → ℕ → ℕ) (k : ℕ) (sum : share_sum c ≡ k) where
  -- the new shares are for as many streets
  pub sum-map : share_sum d ≡ k
  sum-map =
      let D : List ℕ = divide v k c in
      omega (arith, in-length (map f D) d (in_map f g c d there back D (divide-in v k c sum)), length-map D f, divide-length v k c)

  -- the best division by the new numbers, renumbered back, is the best division
  pub divide-map : ((x y : ℕ) → x < y → 0 < share d x → 0 < share d y → g x < g y) → map g (divide (λ s x. v s (g x)) k d) ≡ divide v k c
  divide-map rises = divide-only v k c sum (map g B) (in_map g f d c back there B b) most first
    where
      -- the values by the numbers, and the best division by them
      w : ℕ → ℕ → ℕ
      w s x = v s (g x)

      B : List ℕ
      B = divide w k d

      b : InShares B d
      b = divide-in w k d sum-map

      -- a division is its renumbered one, renumbered back, and totals what that totals by the numbers
      again : (E : List ℕ) → InShares E c → map g (map f E) ≡ E
      again E i = map_back f g E (λ s l. (there (at E s) (has-share E c i s l)).1)

      total : (E : List ℕ) → InShares E c → division_total v E ≡ division_total w (map f E)
      total E i = sym (ap (division_total v) (again E i)) ∙ total-map v g (map f E)

      -- so none totals more, and of those that total the same none comes before
      most : (E : List ℕ) → InShares E c → division_total v E ≤ division_total v (map g B)
      most E i = omega (arith, total E i, total-map v g B, divide-most w k d sum-map (map f E) (in_map f g c d there back E i))

      first : (E : List ℕ) → InShares E c → division_total v E ≡ division_total v (map g B) → First (map g B) E
      first E i e =
          let j : InShares (map f E) d = in_map f g c d there back E i in
          let before : First B (map f E) = divide-first w k d sum-map (map f E) j (omega (arith, total E i, total-map v g B)) in
          rw (again E i) at (first-map g d B (map f E) rises (has-share B d b) (has-share (map f E) d j) before)
