-- The search for a closed chain that gains (for costs: a negative cycle), layer by layer, and the loop that shifts such chains until there is none.
-- The values are in rows of w, the number of the sites with site 0 in front; D is a division, v the value, via the street that raised a site.
-- Assumes nothing.
use Rattle.std.specs.Prelude.{ℕ, ◌+◌, ◌*◌, ◌≤◌, ◌<◌, ◌≡◌, List, length, Option, MatchOption}
use Rattle.counting.specs.Bounds.{most_value}
use Rattle.counting.specs.Lists.{at, cell}
use Rattle.layers.specs.Layers.{Layer}
use Rattle.rings.specs.Rings.{Trail}

-- buffers that hold a search: its last prices, and the prices and the raising streets of all layers
pub record Buffers (w : ℕ) (low prices vias : List ℕ) : Type 0 where
  pub low_fits : length low ≡ w
  pub prices-fit : length prices ≡ (w + 1) * w
  pub vias-fit : length vias ≡ w * w

-- a search after k layers: row l of the prices is made from the row before, and `low` is row k
pub record Searched (values shares division : List ℕ) (w k : ℕ) (low prices vias : List ℕ) : Type 0 where
  pub last : (b : ℕ) → b < w → at low b ≡ cell prices w k b
  pub layers : (l : ℕ) → l < k
      → Layer (cell values w) (cell prices w l) (at division) (at shares) (length division) w (cell prices w (l + 1)) (cell vias w l)
  pub small : (a : ℕ) → at low a ≤ most_value * k

-- of the sites below `seen`, one that was raised; none where none was
abbrev pub Raised : (ℕ → ℕ) → ℕ → ℕ → ℕ → Option ℕ → Type 0
Raised via n w seen top = MatchOption top ((b : ℕ) → b < seen → n ≤ via b) (λ r. (r < w) × (via r < n))

-- a closed chain of q moves: it ends at the site where it began
pub record Closed (D : List ℕ) (w : ℕ) (ts xs : ℕ → ℕ) (from q : ℕ) : Type 0 where
  pub trail : Trail D ts xs from q
  pub closed : xs (from + q) ≡ xs from
  pub site : (l : ℕ) → from ≤ l → l ≤ from + q → xs l < w
