-- Laws of the sites' sums and of the table that a loop over the streets makes of them, whatever the streets bring.
-- Assumes nothing.
use mathlib.Core.Path.{◌≡◌, refl, sym, ap, ◌∙◌}
use mathlib.Core.Bool.{Bool, true, false}
use mathlib.Core.List.{List, []}
use Prim.Native.Nat.{ℕ, suc, ◌+◌, ◌*◌, ◌≤◌, ◌<◌}
use native.Mathlib.Decide.{ℕ_discrete}
use native.Mathlib.Numerals.{add-one}
use native.Mathlib.Omega.{arith}
use lib.Dec.{eqb}
use lib.ListN.{length, take, set, replicate, length-set, length-replicate, get_or-replicate}
use lib.Seq.{length-take-le, take_all, get_or-set_same, get_or-set_other}
use borrow.Author.Tests.{eq-eqb, ne_eqb}
use Rattle.counting.specs.Words.{◌when◌, one}
use Rattle.counting.specs.Lists.{at, count}
use Rattle.counting.proofs.Refusals.{when-yes, when-none}
use Rattle.division.specs.Shares.{division_total}
use Rattle.division.proofs.Counts.{division_total-suc, division_total-bound, division_total-same, count-total}
use Rattle.loads.specs.Loads.{site_sum}
use Rattle.loads.specs.Sums.{Summed}

-- what a test lets through is no more than there was
when-most : (x y : ℕ) (t : Bool) → x ≤ y → (x when t) ≤ y
unfolding ◌when◌
when-most x y true l = l
when-most x y false l = omega arith

-- where each street brings 1, the sum of a site is its number of streets
pub streets-sum : (division : List ℕ) (a : ℕ) → site_sum (λ s. 1) division a ≡ count division a
unfolding ◌when◌
streets-sum division a = sym (count-total division a ∙ division_total-same _ _ division (λ s l. ones (eqb (at division s) a)))
  where
    ones : (t : Bool) → one t ≡ 1 when t
    ones true = refl
    ones false = refl

module _ (brings : ℕ → ℕ) where
  -- no street has brought anything yet
  pub summed-none : Summed brings (replicate 256 0) []
  unfolding division_total
  summed-none = record { size = length-replicate {A = ℕ} 256 0; right = λ a l. get_or-replicate 256 a 0 0 l }

  module _ (sums division : List ℕ) (s : ℕ) (more : s < length division) (small : at division s < 256) (h : Summed brings sums (take s division)) where
    -- so far a site has at most what its streets can bring
    pub summed-room : (most : ℕ) → ((i : ℕ) → brings i ≤ most) → at sums (at division s) ≤ s * most
    summed-room most few =
        let sum = division_total-bound (λ i a. brings i when eqb a (at division s)) most (take s division) (λ i l. when-most (brings i) most _ (few i)) in
        rw (length-take-le s division (omega arith)) at (rw (sym (h.right (at division s) small)) at sum)

    -- one street more brings its own
    pub summed-more : Summed brings (set sums (at division s) (at sums (at division s) + brings s)) (take (s + 1) division)
    summed-more =
        record {
          size = simp length-set h.size;
          right = λ a l. go a (h.right a l) (ℕ_discrete a (at division s))
              ∙ sym (rw add-one (division_total-suc (λ i b. brings i when eqb b a) division s more));
        }
      where
        now : List ℕ
        now = set sums (at division s) (at sums (at division s) + brings s)

        go : (a : ℕ) → at sums a ≡ site_sum brings (take s division) a → Dec (a ≡ at division s)
            → at now a ≡ site_sum brings (take s division) a + (brings s when eqb (at division s) a)
        go a e (yes q) =
            let here : at now (at division s) ≡ at sums (at division s) + brings s =
            get_or-set_same sums (at division s) (at sums (at division s) + brings s) 0 (omega (arith, h.size)) in
            let its = when-yes (brings s) _ (eq-eqb (at division s) a (sym q)) in
            omega (arith, ap (λ (x : ℕ). at now x) q, ap (λ (x : ℕ). at sums x) q, here, its, e)
        go a e (no q) =
            let none = when-none (brings s) _ (ne_eqb (at division s) a (λ p. q (sym p))) in
            omega (arith, get_or-set_other sums (at division s) a (at sums (at division s) + brings s) 0 q, none, e)

  -- every street has
  pub summed-all : (sums division : List ℕ) (s : ℕ) → length division ≤ s → Summed brings sums (take s division) → Summed brings sums division
  summed-all sums division s l h = rw (take_all s division l) at h

  -- and the table has the sum of the site a + 1
  pub summed-site : (sums division : List ℕ) (a : ℕ) → Summed brings sums division → a < 255 → at sums (a + 1) ≡ site_sum brings division (suc a)
  summed-site sums division a h small = rw add-one (h.right (suc a) (omega arith))
