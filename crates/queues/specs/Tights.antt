-- The rows of the tight streets: for each site that has a share, the streets that are tight for it, one after the other. Who looks for a street
-- that is tight for a site then goes over the site's row instead of over all streets. v is the value of a site for a street, d are prices,
-- D is a division.
-- Assumes nothing.
use Rattle.std.specs.Prelude.{ℕ, ◌+◌, ◌*◌, ◌≤◌, ◌<◌, ◌≡◌, List, length}
use Rattle.counting.specs.Bounds.{most_streets, most_width}
use Rattle.counting.specs.Lists.{at}
use Rattle.division.specs.Prices.{Tight}

-- the row of the site y, from the index r: a 0, and then e streets before u, between which and after which no street before u is tight for y
pub record Row (v : ℕ → ℕ → ℕ) (d : ℕ → ℕ) (D tights : List ℕ) (r e y u : ℕ) : Type 0 where
  pub fits : e ≤ u
  pub bottom : at tights r ≡ 0
  pub street : (j : ℕ) → j ≤ e → 0 < at tights (r + j) → at tights (r + j) < u
  pub gap : (j : ℕ) → j < e → (t : ℕ) → at tights (r + j) < t → t < at tights (r + (j + 1)) → Tight v d D t y → ⊥
  pub above : (t : ℕ) → t < u → at tights (r + e) < t → Tight v d D t y → ⊥

-- the whole row of the site y, in a table with a row for each site
abbrev pub RowOf : (ℕ → ℕ → ℕ) → (ℕ → ℕ) → List ℕ → List ℕ → List ℕ → ℕ → Type 0
RowOf v d D tights ends y = Row v d D tights (y * (length D + 1)) (at ends y) y (length D)

-- the sites below k that have a share have their rows
abbrev pub Listed : (ℕ → ℕ → ℕ) → (ℕ → ℕ) → List ℕ → List ℕ → ℕ → List ℕ → List ℕ → Type 0
Listed v d D shares k tights ends = (y : ℕ) → y < k → 0 < at shares y → RowOf v d D tights ends y

-- the sites where streets stand have their rows
abbrev pub Rowed : (ℕ → ℕ → ℕ) → (ℕ → ℕ) → List ℕ → List ℕ → List ℕ → Type 0
Rowed v d D tights ends = (t : ℕ) → t < length D → RowOf v d D tights ends (at D t)

-- the cells of a table with rows for the most sites and the most streets
abbrev pub most_tights : ℕ
most_tights = most_width * (most_streets + 1)
