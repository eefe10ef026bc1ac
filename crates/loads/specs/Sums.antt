-- What the tries of a hand plan's sites go by: the table of the sites' sums, of loads and, where each street brings 1, of streets.
-- Assumes nothing.
use Rattle.std.specs.Prelude.{ℕ, ◌<◌, ◌≡◌, List, length}
use Rattle.counting.specs.Lists.{at}
use Rattle.loads.specs.Loads.{site_sum}

-- for each byte the sum over the streets that have it as their site
pub record Summed (brings : ℕ → ℕ) (sums division : List ℕ) : Type 0 where
  pub size : length sums ≡ 256
  pub right : (a : ℕ) → a < 256 → at sums a ≡ site_sum brings division a
