-- A row of a table with a row for each street and a column for each site lies within it, and every index into the table is small.
-- Assumes nothing.
use mathlib.Core.Path.{◌≡◌}
use Prim.Native.Nat.{ℕ, ◌+◌, ◌*◌, ◌≤◌, ◌<◌}
use native.Mathlib.Nat.{mul-le-mul}
use native.Mathlib.Omega.{arith}
use Rattle.counting.specs.Bounds.{most_streets, most_width, most_entries}
use Rattle.counting.proofs.Tables.{row_within}

-- row s of a table of a width and a size
pub record RowIn (s w size : ℕ) : Type 0 where
  pub ends : s * w + w ≤ size
  pub few-cells : size ≤ most_entries

pub row-in-table : (s n w : ℕ) {size : ℕ} → size ≡ n * w → s < n → n ≤ most_streets → w ≤ most_width → RowIn s w size
row-in-table s n w e l few few-sites =
    record {
      ends = omega (arith, row_within n w s l);
      few-cells = omega (arith, mul-le-mul {n₁ = n} {m₁ = w} {n₂ = most_streets} {m₂ = most_width} few few-sites);
    }

-- a row of the best moves lies within their table, which has a row and a column for each of the most sites
abbrev pub most_area : ℕ
most_area = most_width * most_width

pub row-in-moves : (a w : ℕ) → a < w → w ≤ most_width → RowIn a w most_area
row-in-moves a w l few =
    record { ends = omega (arith, row_within w w a l, mul-le-mul {n₁ = w} {m₁ = w} {n₂ = most_width} {m₂ = most_width} few few); few-cells = omega arith }
