-- The words for a table that is filled from the rows: it keeps an entry for each street and each of the sites 0, 1, .., m. The entry of a
-- street at a site is `f` of the site's place in the street's row, and `f 0` where it has none.
-- Assumes nothing.
use Rattle.std.specs.Prelude.{◌≡◌, ◌≢◌, List, ℕ, ◌+◌, ◌*◌, ◌≤◌, ◌<◌, length}
use Rattle.counting.specs.Bounds.{most_streets, most_sites, most_entries}
use Rattle.counting.specs.Lists.{at}
use Rattle.survey.specs.Rows.{row_at, place_of}
use Rattle.survey.specs.Accepted.{SoundRow}

-- the rows of an accepted survey: all that the places are read from
pub record Ranked (n m : ℕ) (rows : List ℕ) : Type 0 where
  pub few-streets : n ≤ most_streets
  pub few-sites : m ≤ most_sites
  pub rows_fit : length rows ≡ n * m
  pub sound-rows : (s : ℕ) → s < n → SoundRow m (row_at m rows s)

-- the index of a site's and a street's entry: by site, in a row of n entries for each site
abbrev pub by_site : ℕ → ℕ → ℕ → ℕ
by_site n a s = a * n + s

-- by street, in a row of w entries for each street
abbrev pub by_street : ℕ → ℕ → ℕ → ℕ
by_street w a s = s * w + a

-- the entries of n streets and the sites 0, 1, .., m all stand within a size, each at an index of its own
pub record Layout (index : ℕ → ℕ → ℕ) (n m size : ℕ) : Type 0 where
  pub within : (a s : ℕ) → a ≤ m → s < n → index a s < size
  pub sites-apart : (a b s : ℕ) → a ≤ m → b ≤ m → s < n → a ≢ b → index a s ≢ index b s
  pub streets-apart : (a b s t : ℕ) → a ≤ m → b ≤ m → s < n → t < n → s ≢ t → index a s ≢ index b t

-- a street's own entries, that of the site a at the index `own a`, all within a table that is not long
pub record Room (own : ℕ → ℕ) (m : ℕ) (table : List ℕ) : Type 0 where
  pub within : (a : ℕ) → a ≤ m → own a < length table
  pub apart : (a b : ℕ) → a ≤ m → b ≤ m → a ≢ b → own a ≢ own b
  pub few-sites : m ≤ most_sites
  pub size : length table ≤ most_entries

-- the street's row is not read yet: each of its entries is that of no place
abbrev pub Unread : (ℕ → ℕ) → (ℕ → ℕ) → ℕ → List ℕ → Type 0
Unread f own m table = (a : ℕ) → a ≤ m → at table (own a) ≡ f 0

-- the street has its entries by its row, and every other entry is as it was
pub record Entered (f own : ℕ → ℕ) (row before after : List ℕ) : Type 0 where
  pub right : (a : ℕ) → a ≤ length row → at after (own a) ≡ f (place_of row a)
  pub others : (i : ℕ) → ((a : ℕ) → a ≤ length row → i ≢ own a) → at after i ≡ at before i
