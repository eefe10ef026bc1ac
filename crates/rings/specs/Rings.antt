-- Walking back from a raised site to a meeting, by Bellman-Ford's predecessors, and the closed chain of moves that it finds, a gaining cycle. At layer
-- l the street ts l stands at the site xs l and goes to the site xs (l + 1). The table of the streets that raised the sites has a row for each layer.
-- Assumes nothing.
use Rattle.std.specs.Prelude.{ℕ, zero, suc, ◌+◌, ◌*◌, ◌≤◌, ◌<◌, ◌≡◌, ◌≢◌, List, length, set, Option, MatchOption}
use Rattle.counting.specs.Bounds.{most_width}
use Rattle.counting.specs.Lists.{at, cell}

-- a division after q moves of a chain that begins at layer i
unfoldable pub moved : List ℕ → (ℕ → ℕ) → (ℕ → ℕ) → ℕ → ℕ → List ℕ
moved D ts xs i zero = D
moved D ts xs i (suc q) = set (moved D ts xs i q) (ts (i + q)) (xs (i + q + 1))

-- a chain of moves: each street stands at its site, and the sites differ
pub record Trail (D : List ℕ) (ts xs : ℕ → ℕ) (i q : ℕ) : Type 0 where
  pub street : (l : ℕ) → i ≤ l → l < i + q → ts l < length D
  pub site : (l : ℕ) → i ≤ l → l < i + q → at D (ts l) ≡ xs l
  pub differ : (k l : ℕ) → i ≤ k → k < l → l < i + q → xs k ≢ xs l

-- a chain of moves of n streets that a walk holds
pub record Moves (n : ℕ) (streets : List ℕ) (from count : ℕ) : Type 0 where
  pub fits : from + count ≤ most_width
  pub within : (l : ℕ) → from ≤ l → l < from + count → at streets l < n

-- what a walk back from the site b, raised by the layer before k, is lent: a site raised by a street was raised because its street's own
-- site was raised one layer earlier
pub record Walkable (vias division : List ℕ) (w k b : ℕ) : Type 0 where
  pub start : b < w
  pub raised : (p : ℕ) → p + 1 ≡ k → cell vias w p b < length division
  pub back : (l x : ℕ) → l + 1 < k → x < w → cell vias w (l + 1) x < length division
      → cell vias w l (at division (cell vias w (l + 1) x)) < length division
  pub sited : (s : ℕ) → s < length division → at division s < w
  pub layers-fit : k * w ≤ length vias
  pub fits : k ≤ most_width
  pub few-sites : w ≤ most_width

-- the walk down to layer l, where it began at layer k
pub record Linked (via : ℕ → ℕ → ℕ) (D : List ℕ) (w k l : ℕ) (ts xs : ℕ → ℕ) : Type 0 where
  pub site : (q : ℕ) → l ≤ q → q ≤ k → xs q < w
  pub street : (q : ℕ) → l ≤ q → q < k → ts q < length D
  pub by : (q : ℕ) → l ≤ q → q < k → ts q ≡ via q (xs (q + 1))
  pub left : (q : ℕ) → l ≤ q → q < k → at D (ts q) ≡ xs q
  pub next : (p : ℕ) → p + 1 ≡ l → via p (xs l) < length D

-- the sites of the layers l to k differ
abbrev pub Apart : (ℕ → ℕ) → ℕ → ℕ → Type 0
Apart xs l k = (p q : ℕ) → l ≤ p → p < q → q ≤ k → xs p ≢ xs q

-- what a walk finds: some moves, q of them, from a layer on that end where they began
pub record Walked (via : ℕ → ℕ → ℕ) (D : List ℕ) (w k : ℕ) (ts xs : ℕ → ℕ) (from q : ℕ) : Type 0 where
  pub some : 0 < q
  pub fits : from + q ≤ k
  pub trail : Trail D ts xs from q
  pub closed : xs (from + q) ≡ xs from
  pub by : (l : ℕ) → from ≤ l → l < from + q → ts l ≡ via l (xs (l + 1))
  pub site : (l : ℕ) → from ≤ l → l ≤ from + q → xs l < w

-- the first place of the site x in a list; none where it has none
abbrev pub Found : List ℕ → ℕ → Option ℕ → Type 0
Found sites x place =
    MatchOption place ((p : ℕ) → p < length sites → at sites p ≢ x)
    (λ q. (q < length sites) × (at sites q ≡ x) × ((p : ℕ) → p < q → at sites p ≢ x))

-- what a step from layer l + 1 down to layer l is lent: the site above was raised by a street, and there is room for the layer
pub record Linkable (vias division : List ℕ) (w l : ℕ) (sites : List ℕ) : Type 0 where
  pub row_fits : l * w + at sites (l + 1) < length vias
  pub raised : cell vias w l (at sites (l + 1)) < length division
  pub fits : l < most_width
