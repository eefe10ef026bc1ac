-- A list of sites over which streets can be divided in the shares of rounds.
-- Assumes nothing.
use Rattle.std.specs.Prelude.{◌≡◌, true, List, ℕ, ◌≤◌, ◌<◌, length}
use Rattle.counting.specs.Lists.{distinct}
use Rattle.counting.specs.Sites.{Sites}

-- different sites of 1 to m, at least one and at most m
pub record Shareable (m : ℕ) (list : List ℕ) : Type 0 where
  pub some : 0 < length list
  pub few : length list ≤ m
  pub sites : Sites m list
  pub apart : distinct list ≡ true
