-- Numbers for the sites that have a share, in the sites' order, so that the tables of a division need no column for the others.
-- Assumes nothing.
use Rattle.std.specs.Prelude.{◌≡◌, List, ℕ, ◌≤◌, ◌<◌}
use Rattle.counting.specs.Bounds.{most_value}
use Rattle.counting.specs.Lists.{at, cell}

-- the sites below a that have a share have the numbers 1 to k - 1, in rising order, and site 0 has the number 0: `sites` leads from number to site,
-- `numbers` from site to number, and `few` has the shares by number
pub record Numbered (shares sites numbers few : List ℕ) (a k : ℕ) : Type 0 where
  pub some : 0 < k
  pub front : at sites 0 ≡ 0
  pub fewer : k ≤ a
  pub site : (j : ℕ) → j < k → at sites j < a
  pub shared : (j : ℕ) → j < k → at few j ≡ at shares (at sites j)
  pub back : (j : ℕ) → j < k → at numbers (at sites j) ≡ j
  pub rises : (i j : ℕ) → i < j → j < k → at sites i < at sites j
  pub number : (b : ℕ) → b < a → 0 < at shares b → (at numbers b < k) × (at sites (at numbers b) ≡ b)

-- a table of the columns that the first k of `sites` have in another, for the first n streets
pub record Columns (values : List ℕ) (w : ℕ) (sites table : List ℕ) (k n : ℕ) : Type 0 where
  pub same : (s j : ℕ) → s < n → j < k → cell table k s j ≡ cell values w s (at sites j)
  pub small : (i : ℕ) → at table i ≤ most_value
