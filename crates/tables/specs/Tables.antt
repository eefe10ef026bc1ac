-- The tables of a survey's values, which the engines read in place of the rows, with an entry for each street and each of the sites 0, 1, .., m.
-- Assumes nothing.
use Rattle.std.specs.Prelude.{ℕ, ◌+◌, ◌*◌, ◌≤◌, ◌<◌, ◌≡◌, List, length}
use Rattle.counting.specs.Bounds.{most_streets, most_sites, top_score, most_value}
use Rattle.counting.specs.Lists.{at, cell}

-- the value of the site a for the street s, by street: in rows of m + 1 values
abbrev pub value_in : List ℕ → ℕ → ℕ → ℕ → ℕ
value_in values m = cell values (m + 1)

-- the same by site: in rows of n values
abbrev pub site_value : List ℕ → ℕ → ℕ → ℕ → ℕ
site_value values n s a = cell values n a s

-- a table of so many rows of a width before it is filled: all 0
pub record Blank (height width : ℕ) (table : List ℕ) : Type 0 where
  pub size : length table ≡ height * width
  pub none : (i : ℕ) → at table i ≡ 0

-- the table of the entries `f row column`
pub record Tabled (f : ℕ → ℕ → ℕ) (height width : ℕ) (table : List ℕ) : Type 0 where
  pub size : length table ≡ height * width
  pub right : (r c : ℕ) → r < height → c < width → cell table width r c ≡ f r c

-- a table of values of n streets and m sites, none above a bound
pub record ValueTable (most n m height width : ℕ) (values : List ℕ) : Type 0 where
  pub few-streets : n ≤ most_streets
  pub few-sites : m ≤ most_sites
  pub size : length values ≡ height * width
  pub small : (i : ℕ) → at values i ≤ most

-- by street
abbrev pub StreetTable : ℕ → ℕ → List ℕ → Type 0
StreetTable n m values = ValueTable most_value n m n (m + 1) values

-- by site: scores, so that a part of 64 streets fits 16 bits
abbrev pub SiteTable : ℕ → ℕ → List ℕ → Type 0
SiteTable n m values = ValueTable top_score n m (m + 1) n values
