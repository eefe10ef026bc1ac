-- A limit for each site: the later streets that may leave the site all come before it. A site whose limit no later street comes before can't be
-- left, so no other street can go there. v is the value of a site for a street, d are prices, D is a division.
-- Assumes nothing.
use Rattle.std.specs.Prelude.{ℕ, ◌+◌, ◌≤◌, ◌<◌, ◌≡◌, ◌≢◌, List, length}
use Rattle.counting.specs.Lists.{at}
use Rattle.queues.specs.Queue.{Later}
use Rattle.division.specs.Prices.{Tight}

-- the street t may leave its site: it is tight for another one that has a share
abbrev pub Leaver : (ℕ → ℕ → ℕ) → (ℕ → ℕ) → List ℕ → List ℕ → ℕ → Type 0
Leaver v d shares D t = (y : ℕ) × (0 < at shares y) × (y ≢ at D t) × Tight v d D t y

-- the limits hold for the streets later than s that have the property L
pub record Limits (L : ℕ → Type 0) (s : ℕ) (D limits : List ℕ) : Type 0 where
  pub within : (x : ℕ) → at limits x ≤ length D
  pub limit : (t : ℕ) → s < t → t < length D → L t → t < at limits (at D t)

-- the limit of the site x is at least k now, and no other has changed
pub record Raised (before after : List ℕ) (x k : ℕ) : Type 0 where
  pub up : (y : ℕ) → at before y ≤ at after y
  pub own : k ≤ at after x
  pub from : (y n : ℕ) → at before y ≤ n → k ≤ n → at after y ≤ n

-- the street that comes last before the limit of the site x stands there, and is later than s
abbrev pub LastAt : List ℕ → ℕ → List ℕ → ℕ → Type 0
LastAt D s limits x = (t : ℕ) × (at limits x ≡ t + 1) × Later D s t x
