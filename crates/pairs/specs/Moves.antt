-- The best move between each two sites: of the streets at one site, the one that gains most by the move to the other, and its gain: an edge of
-- the residual graph over sites. A gain is counted from `even`, so that nothing is signed and 0 stands for a site without streets.
-- Sites are numbered from 0 up to a width, site 0 being the one that has no streets; v is the value, D the streets' sites.
-- Assumes nothing.
use Rattle.std.specs.Prelude.{ℕ, ◌+◌, ◌*◌, ◌≤◌, ◌<◌, ◌≡◌, ◌≢◌, List, length}
use Rattle.counting.specs.Bounds.{most_streets, most_width, most_value}
use Rattle.counting.specs.Lists.{at, cell}

-- the gain of a street that gives both sites the same: more than any value
abbrev pub even : ℕ
even = 100000

-- values of the streets of a division, in rows of a width
pub record Valued (values division : List ℕ) (w : ℕ) : Type 0 where
  pub size : length values ≡ length division * w
  pub small : (i : ℕ) → at values i ≤ most_value
  pub few : length division ≤ most_streets
  pub few-sites : w ≤ most_width

-- the best move from the site a to the site b, of the streets before `seen`: its gain g and its street t
pub record Pair (v : ℕ → ℕ → ℕ) (D : ℕ → ℕ) (a seen n b g t : ℕ) : Type 0 where
  pub covers : (s : ℕ) → s < seen → D s ≡ a → v s b + even ≤ g + v s a
  pub street : 0 < g → t < n
  pub stands : 0 < g → D t ≡ a
  pub by : 0 < g → g + v t a ≡ v t b + even
  pub small : g ≤ even + most_value

-- the best moves from a site
abbrev pub Row : (ℕ → ℕ → ℕ) → (ℕ → ℕ) → ℕ → ℕ → ℕ → ℕ → (ℕ → ℕ) → (ℕ → ℕ) → Type 0
Row v D a seen n w g t = (b : ℕ) → b < w → Pair v D a seen n b (g b) (t b)

-- the tables of the streets and of the gains of all best moves
pub record Tables (values division : List ℕ) (w : ℕ) (pairs gains : List ℕ) : Type 0 where
  pub paired : (a : ℕ) → a < w → Row (cell values w) (at division) a (length division) (length division) w (cell gains w a) (cell pairs w a)

-- the better of a best move so far and one more, which must gain more to win
pub record Better (g t x s g' t' : ℕ) : Type 0 where
  pub up : g < x → g' ≡ x
  pub up-street : g < x → t' ≡ s
  pub keep : x ≤ g → g' ≡ g
  pub keep-street : x ≤ g → t' ≡ t

-- in the middle of a street's turn: the sites below b have seen it
pub record Meeting (v : ℕ → ℕ → ℕ) (D : ℕ → ℕ) (a s n w b : ℕ) (g t : ℕ → ℕ) : Type 0 where
  pub done : Row v D a (s + 1) n b g t
  pub rest : (k : ℕ) → b ≤ k → k < w → Pair v D a s n k (g k) (t k)

-- the row of one site made anew, the others as they were
pub record Renewed (values division : List ℕ) (w a : ℕ) (pairs gains pairs' gains' : List ℕ) : Type 0 where
  pub row : Row (cell values w) (at division) a (length division) (length division) w (cell gains' w a) (cell pairs' w a)
  pub gains-kept : (x b : ℕ) → x < w → x ≢ a → b < w → cell gains' w x b ≡ cell gains w x b
  pub pairs-kept : (x b : ℕ) → x < w → x ≢ a → b < w → cell pairs' w x b ≡ cell pairs w x b

-- only the rows of the sites xs i, .., xs (e - 1) are still to be made anew
abbrev pub Mended : List ℕ → List ℕ → ℕ → (ℕ → ℕ) → ℕ → ℕ → List ℕ → List ℕ → Type 0
Mended values division w xs i e pairs gains =
    (a : ℕ) → a < w → ((l : ℕ) → i ≤ l → l < e → xs l ≢ a)
    → Row (cell values w) (at division) a (length division) (length division) w (cell gains w a) (cell pairs w a)
