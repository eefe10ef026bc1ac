-- What loads and limits that are not refused show: none is above 1,000,000, and each site's two sums are within its limits; and back.
-- Assumes nothing.
use mathlib.Core.Path.{◌≡◌, refl, sym}
use mathlib.Core.Logic.{by_cases}
use mathlib.Core.List.{List}
use Prim.Native.Nat.{ℕ, suc, ◌+◌, ◌≤◌, ◌<◌}
use native.Mathlib.Decide.{dec_lt}
use native.Mathlib.Omega.{arith}
use lib.Dec.{ltb, lit<}
use lib.ListN.{length}
use borrow.Author.Tests.{ltb-false, lt-ltb, le-ltb}
use Rattle.counting.specs.Words.{◌when◌, ◌or_else◌}
use Rattle.counting.specs.Lists.{at}
use Rattle.counting.proofs.Refusals.{or-zero, or-pass, when-zero, when-yes, when-none, first-none, first-zeros}
use Rattle.counting.proofs.Sums.{at-past}
use Rattle.loads.specs.Loads.{most_load, Load, Loads, above_refusal, site_load, over_refusal, limits_refusal, Within}
use Rattle.loads.specs.Sums.{Summed}
use Rattle.loads.proofs.SiteSums.{summed-site}

-- ---- 21
-- a list that is not refused has no number above 1,000,000
pub above-none : (numbers : List ℕ) → above_refusal numbers ≡ 0 → (j : ℕ) → at numbers j ≤ most_load
above-none numbers e j =
    by_cases (dec_lt j (length numbers))
    (λ l. ltb-false most_load (at numbers j) (when-zero 21 _ (lit< tt) (first-none (length numbers) (λ j. 21 when ltb most_load (at numbers j)) e j l)))
    (λ n. omega (arith, at-past numbers j (omega arith)))

-- ---- 22 and 23
module _ (l : Loads) (division : List ℕ) where
  -- what is tried of the site i + 1
  abbrev pub tried : ℕ → ℕ
  tried i = over_refusal 22 l.kilograms division i or_else over_refusal 23 l.litres division i

  -- the site is within its limit of a kind
  abbrev Within-at : Load → ℕ → Type 0
  Within-at one i = site_load one division (suc i) ≤ at one.limits i

  -- a number that does not apply there, and one that does
  not-over : (number : ℕ) (one : Load) (i : ℕ) → Within-at one i → 0 ≡ over_refusal number one division i
  not-over number one i h = when-none number _ (le-ltb (at one.limits i) _ h)

  is-over : (number : ℕ) (one : Load) (i : ℕ) → at one.limits i < site_load one division (suc i) → number ≡ over_refusal number one division i
  is-over number one i h = when-yes number _ (lt-ltb (at one.limits i) _ h)

  -- a site within both limits is not refused
  quiet : (i : ℕ) → Within-at l.kilograms i → Within-at l.litres i → tried i ≡ 0
  quiet i k h = sym (or-pass 0 0 _ _ (not-over 22 l.kilograms i k) refl (not-over 23 l.litres i h))

  -- and one that is not refused is within both
  pub limits-within : (m : ℕ) → limits_refusal m l division ≡ 0 → Within m l division
  limits-within m e =
      record { kilograms = λ i h. fits 22 l.kilograms i (lit< tt) (site i h).0; litres = λ i h. fits 23 l.litres i (lit< tt) (site i h).1 }
    where
      site : (i : ℕ) → i < m → (over_refusal 22 l.kilograms division i ≡ 0) × (over_refusal 23 l.litres division i ≡ 0)
      site i h = or-zero _ _ (first-none m _ e i h)

      fits : (number : ℕ) (one : Load) (i : ℕ) → 0 < number → over_refusal number one division i ≡ 0 → Within-at one i
      fits number one i h z = ltb-false (at one.limits i) _ (when-zero number _ h z)

  pub within-limits : (m : ℕ) → Within m l division → limits_refusal m l division ≡ 0
  within-limits m w = first-zeros m tried (λ i h. quiet i (w.kilograms i h) (w.litres i h))

  -- what the sums of the site a + 1 are tried for is what is tried of it
  pub site-tried : (kilograms litres : List ℕ) (a x : ℕ) → Summed (at l.kilograms.streets) kilograms division → Summed (at l.litres.streets) litres division
      → a < 64 → x ≡ (22 when ltb (at l.kilograms.limits a) (at kilograms (a + 1)) or_else 23 when ltb (at l.litres.limits a) (at litres (a + 1)))
      → x ≡ tried a
  site-tried kilograms litres a x k h small e =
      rw (summed-site (at l.kilograms.streets) kilograms division a k (omega arith), summed-site (at l.litres.streets) litres division a h (omega arith)) at e
