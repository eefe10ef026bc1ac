-- Laws of the loop that fills the small table, a street's row a turn.
-- Assumes nothing.
use mathlib.Core.Path.{◌≡◌, ◌∙◌}
use mathlib.Core.Logic.{by_cases}
use mathlib.Core.List.{List}
use Prim.Native.Nat.{ℕ, ◌+◌, ◌-◌, ◌*◌, ◌≤◌, ◌<◌}
use native.Mathlib.Decide.{ℕ_discrete, dec_lt}
use native.Mathlib.Omega.{arith}
use lib.ListN.{length}
use Rattle.counting.specs.Bounds.{most_value}
use Rattle.counting.specs.Lists.{at, cell}
use Rattle.counting.proofs.Parts.{part, put, part_length, part_at, put-length, put-before, put_in, put-behind}
use Rattle.counting.proofs.Tables.{row_within}
use Rattle.compact.specs.Numbered.{Columns}

-- a street's row of a table, as it is lent
abbrev long : ℕ → List ℕ → ℕ → List ℕ
long w values s = part (s * w) (s * w + w) values

-- the street s is next of n
module _ {values : List ℕ} {w : ℕ} {sites table : List ℕ} {k s : ℕ} (h : Columns values w sites table k s) (n : ℕ) (l : s < n)
    (values-size : length values ≡ n * w) (size : length table ≡ n * k) where
  -- the street's rows are within the tables
  in-values : s * w + w ≤ length values
  in-values = omega (arith, row_within n w s l)

  in_table : s * k + k ≤ length table
  in_table = omega (arith, row_within n k s l)

  -- and as long as the tables are wide
  row-length : length (long k table s) ≡ k
  row-length = omega (arith, part_length (s * k) (s * k + k) table in_table)

  long-length : length (long w values s) ≡ w
  long-length = omega (arith, part_length (s * w) (s * w + w) values in-values)

  module _ (fits : k ≤ length sites) (listed : (j : ℕ) → j < k → at sites j < w) where
    -- what the call for one street asks
    pub row-asks : (length (long k table s) ≤ length sites) × ((j : ℕ) → j < length (long k table s) → at sites j < length (long w values s))
    row-asks = (omega (arith, row-length), λ j m. omega (arith, listed j (omega (arith, row-length)), long-length))

    module _ (small : (i : ℕ) → at values i ≤ most_value) (ys : List ℕ) (same_size : length ys ≡ length (long k table s))
        (given : (j : ℕ) → j < length (long k table s) → at ys j ≡ at (long w values s) (at sites j)) where
      -- where the street's row of the small table starts and ends
      abbrev from : ℕ
      from = s * k

      abbrev to : ℕ
      to = s * k + k

      ends : length ys ≡ to - from
      ends = omega (arith, row-length)

      -- what the call has left in the row
      left : (j : ℕ) → j < k → at ys j ≡ cell values w s (at sites j)
      left j m = given j (omega (arith, row-length)) ∙ part_at (s * w) (s * w + w) values in-values (at sites j) (omega (arith, listed j m))

      -- it stands in the table, and is small as the values are
      here : (j : ℕ) → j < k → at (put from to table ys) (from + j) ≡ cell values w s (at sites j)
      here j m = put_in from to table in_table ys (omega arith) ends j (omega arith) ∙ left j m

      inside : (i : ℕ) → from ≤ i → i < to → at (put from to table ys) i ≤ most_value
      inside i a b =
          let place : from + (i - from) ≡ i = omega arith in
          omega (arith, rw place at (here (i - from) (omega arith)), small (s * w + at sites (i - from)))

      low : (i : ℕ) → at (put from to table ys) i ≤ most_value
      low i =
          by_cases (dec_lt i from) (λ a. omega (arith, put-before from to table in_table ys (omega arith) ends i a, h.small i))
          (λ a. by_cases (dec_lt i to) (λ b. inside i (omega arith) b)
          (λ b. omega (arith, put-behind from to table in_table ys (omega arith) ends i (omega arith), h.small i)))

      -- the streets before keep their rows
      before : (t j : ℕ) → t < s → j < k → cell (put from to table ys) k t j ≡ cell values w t (at sites j)
      before t j a m =
          put-before from to table in_table ys (omega arith) ends (t * k + j) (omega (arith, row_within s k t a)) ∙ h.same t j a m

      -- one street more
      pub columns-more : (length (put from to table ys) ≡ n * k) × Columns values w sites (put from to table ys) k (s + 1)
      columns-more = (
        put-length from to table in_table ys (omega arith) ends ∙ size,
        record {
          same = λ t j a m. by_cases (ℕ_discrete t s) (λ q. rw q (here j m)) (λ d. before t j (omega arith) m);
          small = low;
        },
      )
