-- What holds of the division between two streets of the pass. v is the value of a site for a street, d are prices, c shares, D is a division.
-- Assumes nothing.
use Rattle.std.specs.Prelude.{ℕ, ◌+◌, ◌≤◌, ◌<◌, ◌≡◌, List, length}
use Rattle.counting.specs.Bounds.{most_price}
use Rattle.counting.specs.Lists.{at, cell}
use Rattle.division.specs.Prices.{Priced, Tight, FirstTo}
use Rattle.division.specs.Shares.{InShares}
use Rattle.division.specs.Problem.{Problem, tail}
use Rattle.queues.specs.Limits.{Leaver, Limits, LastAt}
use Rattle.queues.specs.Tights.{Listed}

-- a price for each of w sites
abbrev pub Prices : List ℕ → ℕ → Type 0
Prices prices w = (length prices ≡ w) × ((a : ℕ) → at prices a ≤ most_price)

-- the street s is tight for no site below u that has a share and can be left
abbrev pub Loose : (ℕ → ℕ → ℕ) → (ℕ → ℕ) → List ℕ → List ℕ → List ℕ → ℕ → ℕ → Type 0
Loose v d shares limits D s u = (b : ℕ) → b < u → 0 < at shares b → Tight v d D s b → at limits b ≤ s + 1

-- the site b, below its own, is the lowest of these
pub record Aim (v : ℕ → ℕ → ℕ) (d : ℕ → ℕ) (shares limits D : List ℕ) (s b : ℕ) : Type 0 where
  pub within : b < at D s
  pub tight : Tight v d D s b
  pub loose : Loose v d shares limits D s b
  pub left : LastAt D s limits b

-- the division is in the shares, the prices hold for it, and the streets before s are settled
pub record Standing (v : ℕ → ℕ → ℕ) (d : ℕ → ℕ) (c D : List ℕ) (s : ℕ) : Type 0 where
  pub within : InShares D c
  pub priced : Priced v d c D
  pub first : FirstTo v c D s

-- the pass before the street s: a problem with prices, a division that stands, the rows of the tight streets, and the limits
pub record Pass (values shares prices D tights ends limits : List ℕ) (s : ℕ) : Type 0 where
  pub problem : Problem values shares (length D)
  pub price : Prices prices (length shares)
  pub standing : Standing (cell values (length shares)) (at prices) (tail shares) D s
  pub listed : Listed (cell values (length shares)) (at prices) D shares (length shares) tights ends
  pub fits : length shares ≤ length limits
  pub limited : Limits (Leaver (cell values (length shares)) (at prices) shares D) s D limits
