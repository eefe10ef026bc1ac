-- Laws of the engine's loops, one turn each, over plain lists and numbers.
-- Assumes nothing.
use mathlib.Core.Path.{◌≡◌, sym, ap, ◌∙◌}
use mathlib.Core.Logic.{◌≢◌, by_cases}
use mathlib.Core.List.{List}
use Prim.Native.Nat.{ℕ, zero, suc, ◌+◌, ◌-◌, ◌*◌, ◌≤◌, ◌<◌, min, max}
use native.Mathlib.Nat.{add-zero, add-suc, mul-zero, mul-add, mul-le-mul, mul-le-mul_left}
use native.Mathlib.Omega.{arith}
use native.Mathlib.Decide.{ℕ_discrete, dec_lt}
use lib.ListN.{length, set, length-set}
use lib.Seq.{get_or-set_same, get_or-set_other}
use Rattle.counting.specs.Bounds.{most_streets, top_score, top_weight, most_entries, most_width, most_value, most_worth, most_total}
use Rattle.counting.specs.Words.{sum_of}
use Rattle.counting.specs.Lists.{at}
use Rattle.counting.proofs.Sums.{at-past, sum_of-same, sum_of-le, sum_of-even, sum_of-next}
use Rattle.counting.proofs.Tables.{row_within}
use Rattle.counting.proofs.Parts.{part, part_length, part_at}
use Rattle.std.proofs.Common.{Option}
use Rattle.survey.specs.Rows.{row_at}
use Rattle.survey.proofs.RowLoops.{row-part}
use Rattle.tables.specs.Tables.{site_value, SiteTable}
use Rattle.tables.proofs.Filling.{table-small}
use Rattle.choices.specs.declared.Found.{Found}
use Rattle.free_rounds.specs.Held.{Scores, Beside, Bounded, with_none, with_site}

-- ---- the bounds of the sites' rises
module _ {worth : ℕ → ℕ} {so : ℕ} {bounds : List ℕ} (h : Bounded worth so bounds) where
  -- a site's rise is its new bound
  pub bounded-set : (a x y : ℕ) → a < most_width → x ≡ worth a → y ≡ so → so ≤ worth a → worth a ≤ most_worth → Bounded worth so (set bounds a (x - y))
  bounded-set a x y l e q low high =
      record {
        size = length-set bounds a (x - y) ∙ h.size;
        right = λ b k. by_cases (ℕ_discrete b a) (λ i. rw i (omega (arith, here))) (λ d. omega (arith, other b d, h.right b k));
        small = λ b. by_cases (ℕ_discrete b a) (λ i. rw i (omega (arith, here))) (λ d. omega (arith, other b d, h.small b));
      }
    where
      here : at (set bounds a (x - y)) a ≡ x - y
      here = get_or-set_same bounds a (x - y) 0 (omega (arith, h.size))

      other : (b : ℕ) → b ≢ a → at (set bounds a (x - y)) b ≡ at bounds b
      other b d = get_or-set_other bounds a b (x - y) 0 d

  -- the same bounds, where the totals are said another way
  pub bounded-same : {price : ℕ → ℕ} {all : ℕ} → ((a : ℕ) → worth a ≡ price a) → so ≡ all → Bounded price all bounds
  bounded-same e q = record { size = h.size; right = λ a l. omega (arith, h.right a l, e a); small = h.small }

-- ---- a sum over the streets: one street more
pub sum-turn : (f : ℕ → ℕ) (s total x : ℕ) → total ≡ sum_of s f → x ≡ f s → total + x ≡ sum_of (s + 1) f
sum-turn f s total x e q = ap (λ (y : ℕ). y + x) e ∙ ap (λ (y : ℕ). sum_of s f + y) q ∙ sym (sum_of-next s f)

-- a sum is at most so much for each
sum-small : (n x : ℕ) (f : ℕ → ℕ) → ((s : ℕ) → f s ≤ x) → sum_of n f ≤ n * x
sum-small n x f low = omega (arith, sum_of-le n f (λ s. x) (λ s l. low s), sum_of-even n x)

-- so a sum of scores over the streets is not great
pub scores-sum : {n y : ℕ} (f : ℕ → ℕ) → n ≤ most_streets → ((s : ℕ) → f s ≤ top_score) → y ≡ sum_of n f → y ≤ most_total
scores-sum {n} f few low e = omega (arith, e, sum-small n 1000 f low)

-- ---- the streets' weights
-- what a score counts is not great
pub counted-small : {w x : ℕ} → w ≤ top_weight → x ≤ top_score → w * x ≤ most_value
counted-small {w} {x} l k = mul-le-mul {n₁ = w} {m₁ = x} {n₂ = 99} {m₂ = 1000} l k

-- nor is what a sum of scores counts
pub total-small : {w x : ℕ} → w ≤ top_weight → x ≤ most_total → w * x ≤ most_worth
total-small {w} {x} l k = mul-le-mul {n₁ = w} {m₁ = x} {n₂ = 99} {m₂ = 400000} l k

-- a sum times a number
sum-times : (n w : ℕ) (f : ℕ → ℕ) → w * sum_of n f ≡ sum_of n (λ s. w * f s)
sum-times zero w f = mul-zero w
sum-times (suc n) w f = mul-add w (sum_of n f) (f n) ∙ ap (λ (x : ℕ). x + w * f n) (sum-times n w f)

-- where all streets have one weight, the sum of the scores times it is the sum of what they count
pub even_sum : (n w : ℕ) (f : ℕ → ℕ) {x y : ℕ} → y ≡ w → x ≡ sum_of n f → y * x ≡ sum_of n (λ s. w * f s)
even_sum n w f {x} e q = ap (λ (y : ℕ). y * x) e ∙ ap (λ (y : ℕ). w * y) q ∙ sum-times n w f

-- ---- a sum by parts
-- scores stay scores in a part
part_small : (from to : ℕ) (xs : List ℕ) → to ≤ length xs → Scores xs → Scores (part from to xs)
part_small from to xs l low s =
    by_cases (dec_lt s (to - from)) (λ k. omega (arith, part_at from to xs l s (omega arith), low (from + s)))
    (λ k. omega (arith, at-past (part from to xs) s (omega (arith, part_length from to xs l))))

-- a sum in two parts
sum-parts : (a b : ℕ) (f : ℕ → ℕ) → sum_of (a + b) f ≡ sum_of a f + sum_of b (λ i. f (a + i))
sum-parts a zero f = rw add-zero (omega arith)
sum-parts a (suc b) f = rw add-suc (omega (arith, sum-parts a b f))

module _ {bests row : List ℕ} (b : Beside bests row) (from : ℕ) {to : ℕ} (e : to ≡ min (length bests) (from + 64)) where
  -- the streets of a part
  part-size : length (part from to bests) ≡ to - from
  part-size = part_length from to bests (omega arith)

  -- a part of the bests stands beside the same part of the row, and has few streets
  pub part-ready : Beside (part from to bests) (part from to row) × (length (part from to bests) ≤ 64)
  part-ready = (
    record {
      size = part_length from to row (omega (arith, b.size)) ∙ sym part-size;
      few = omega (arith, part-size, b.few);
      small-bests = part_small from to bests (omega arith) b.small-bests;
      small = part_small from to row (omega (arith, b.size)) b.small;
    },
    omega (arith, part-size),
  )

  -- with its sum the streets up to its end are summed, which is not great
  pub part-turn : {total x : ℕ} → from < length bests → total ≡ sum_of from (λ s. max (at bests s) (at row s))
      → x ≡ sum_of (length (part from to bests)) (λ s. max (at (part from to bests) s) (at (part from to row) s))
      → (total + x ≡ sum_of to (λ s. max (at bests s) (at row s))) × (total + x ≤ most_total)
  part-turn {total} {x} l h q = (sum, omega (arith, sum, sum-small to 1000 f (λ s. omega (arith, b.small-bests s, b.small s)), b.few))
    where
      f : ℕ → ℕ
      f s = max (at bests s) (at row s)

      same : (s : ℕ) → s < to - from → max (at (part from to bests) s) (at (part from to row) s) ≡ f (from + s)
      same s k = omega (arith, part_at from to bests (omega arith) s (omega arith), part_at from to row (omega (arith, b.size)) s (omega arith))

      own : x ≡ sum_of (to - from) (λ s. f (from + s))
      own = rw part-size at q ∙ sum_of-same (to - from) _ _ same

      end : from + (to - from) ≡ to
      end = omega arith

      sum : total + x ≡ sum_of to f
      sum = omega (arith, own, rw end at (sum-parts from (to - from) f))

-- ---- a site's row of the table
module _ {n m : ℕ} {values : List ℕ} (t : SiteTable n m values) {a : ℕ} (l : a ≤ m) where
  -- it ends within the table, which is not long
  pub row_ends : (a * n + n ≤ length values) × (length values ≤ most_entries)
  row_ends = (
    omega (arith, row_within (m + 1) n a (omega arith), t.size),
    omega (arith, t.size, table-small n m t.few-streets t.few-sites),
  )

  -- it has a value for each street
  pub row-length : length (row_at n values a) ≡ n
  row-length = rw (← row-part n values a) (omega (arith, part_length (a * n) (a * n + n) values row_ends.0))

  pub row-value : (s : ℕ) → s < n → at (row_at n values a) s ≡ site_value values n s a
  row-value s k = rw (← row-part n values a) (part_at (a * n) (a * n + n) values row_ends.0 s (omega arith))

  row_small : Scores (row_at n values a)
  row_small = rw (← row-part n values a) (part_small (a * n) (a * n + n) values row_ends.0 t.small)

-- the row that is lent for a site stands beside the bests
pub row-beside : {n m a : ℕ} {values bests row : List ℕ} → SiteTable n m values → a ≤ m → length bests ≡ n → Scores bests
    → row ≡ row_at n values a → Beside bests row
row-beside t l e low q =
    rw q (record { size = row-length t l ∙ sym e; few = omega (arith, e, t.few-streets); small-bests = low; small = row_small t l })

module _ {n m : ℕ} {values : List ℕ} (w : ℕ → ℕ) (bests : List ℕ) (t : SiteTable n m values) where
  -- what is summed over it by the weights is the total with the site
  pub row-sum : {a r k : ℕ} {row : List ℕ} → a ≤ m → k ≡ n → row ≡ row_at n values a → r ≡ sum_of k (λ s. w s * max (at bests s) (at row s))
      → r ≡ with_site w values n bests a
  row-sum l q p e = (rw (q, p) at e) ∙ sum_of-same n _ _ (λ s k. ap (λ (x : ℕ). w s * max (at bests s) x) (row-value t l s k))

  -- the total without a site is no greater than that with it, which is at most 400 times the greatest value
  pub with-range : ((s : ℕ) → w s ≤ top_weight) → Scores bests → (a : ℕ)
      → (with_none w n bests ≤ with_site w values n bests a) × (with_site w values n bests a ≤ most_worth)
  with-range light low a =
      let better : (s : ℕ) → max (at bests s) (site_value values n s a) ≤ top_score = λ s. omega (arith, low s, t.small (a * n + s)) in (
        sum_of-le n _ _ (λ s l. mul-le-mul_left {m = at bests s} {n = max (at bests s) (site_value values n s a)} (w s) (omega arith)),
        omega (
          arith,
          sum-small n most_value (λ s. w s * max (at bests s) (site_value values n s a)) (λ s. counted-small (light s) (better s)),
          t.few-streets,
        ),
      )

-- what holds of the bounds and the best so far in either case of a turn holds after it
pub either_way : (P : List ℕ → Option Found → Type 0) {bounds now : List ℕ} {found best : Option Found} → bounds ≡ now → found ≡ best → P now best
    → P bounds found
either_way P {now = now} {found = found} e q h = rw (e, q) h
