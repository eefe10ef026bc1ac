-- The queue of the sites from which the site of a street s is in reach by tight moves of later streets. Place 0 is the start, the site of s; each
-- other place has a site, a later street that stands there, and a place nearer the start whose site that street is tight for. A flag for each
-- site says whether it is in the queue. v is the value of a site for a street, d are prices, D is a division.
-- Assumes nothing.
use Rattle.std.specs.Prelude.{ℕ, ◌*◌, ◌≤◌, ◌<◌, ◌≡◌, Bool, true, false, ◌≢◌, List, length, get_or}
use Rattle.counting.specs.Bounds.{most_streets, most_width, most_value, most_price}
use Rattle.counting.specs.Lists.{at}
use Rattle.division.specs.Prices.{Tight}

-- what the functions are lent and leave as it is: the streets' values in rows of width w, prices, and a division whose sites are below w
pub record PricedTable (values prices D : List ℕ) (w : ℕ) : Type 0 where
  pub rows : length values ≡ length D * w
  pub size : length prices ≡ w
  pub small : (i : ℕ) → at values i ≤ most_value
  pub low : (a : ℕ) → at prices a ≤ most_price
  pub sited : (t : ℕ) → t < length D → at D t < w
  pub few : length D ≤ most_streets
  pub few-sites : w ≤ most_width

-- the answer of a test says whether a fact holds
abbrev pub Tells : Bool → Type 0 → Type 0
Tells r fact = (r ≡ true → fact) × (r ≡ false → fact → ⊥)

-- the flag of a site
abbrev pub flag : List Bool → ℕ → Bool
flag flags x = get_or flags x false

-- the sites of the first k places differ
abbrev pub Differ : ℕ → List ℕ → Type 0
Differ k sites = (i j : ℕ) → i < j → j < k → at sites i ≢ at sites j

-- they are below w and differ, and the flags are theirs
pub record Placed (w k : ℕ) (sites : List ℕ) (flags : List Bool) : Type 0 where
  pub within : (j : ℕ) → j < k → at sites j < w
  pub differ : Differ k sites
  pub each : (j : ℕ) → j < k → flag flags (at sites j) ≡ true
  pub only : (x : ℕ) → flag flags x ≡ true → (j : ℕ) × (j < k) × (at sites j ≡ x)

-- the street t is later than s and stands at the site x
pub record Later (D : List ℕ) (s t x : ℕ) : Type 0 where
  pub after : s < t
  pub street : t < length D
  pub stands : at D t ≡ x

-- the first k places: the site of s is the start, and each other place has a later street that stands at its site, and a place nearer the start
pub record Queue (D : List ℕ) (s k : ℕ) (sites streets nexts : List ℕ) : Type 0 where
  pub start : at sites 0 ≡ at D s
  pub later : (j : ℕ) → j < k → 0 < j → Later D s (at streets j) (at sites j)
  pub nearer : (j : ℕ) → j < k → 0 < j → at nexts j < j

-- each street of the queue is tight for the site of the place nearer the start
abbrev pub Linked : (ℕ → ℕ → ℕ) → (ℕ → ℕ) → List ℕ → ℕ → List ℕ → List ℕ → List ℕ → Type 0
Linked v d D k sites streets nexts = (j : ℕ) → j < k → 0 < j → Tight v d D (at streets j) (at sites (at nexts j))

-- no later street from u on whose site has no flag is tight for the site y
abbrev pub Shut : (ℕ → ℕ → ℕ) → (ℕ → ℕ) → List ℕ → ℕ → List Bool → ℕ → ℕ → Type 0
Shut v d D s flags y u = (t : ℕ) → u ≤ t → t < length D → s < t → flag flags (at D t) ≡ false → Tight v d D t y → ⊥

-- a queue of k places, of which the first i have been looked at with all streets
pub record Grown (v : ℕ → ℕ → ℕ) (d : ℕ → ℕ) (D : List ℕ) (s w k : ℕ) (sites streets nexts : List ℕ) (flags : List Bool) (i : ℕ) : Type 0 where
  pub some : 0 < k
  pub placed : Placed w k sites flags
  pub queue : Queue D s k sites streets nexts
  pub linked : Linked v d D k sites streets nexts
  pub done : (j : ℕ) → j < i → Shut v d D s flags (at sites j) 0

-- and of which the place i has been looked at with the streets from u on
pub record Growing (v : ℕ → ℕ → ℕ) (d : ℕ → ℕ) (D : List ℕ) (s w k : ℕ) (sites streets nexts : List ℕ) (flags : List Bool) (i u : ℕ) : Type 0 where
  pub grown : Grown v d D s w k sites streets nexts flags i
  pub place : i < k
  pub here : Shut v d D s flags (at sites i) u
