-- The path back: the lowest site of the queue that a street s is tight for, and the turn that puts s there while the streets on the path back
-- to the start each go on to the next place's site. v is the value of a site for a street, d are prices, D is a division, E what becomes of it.
-- Assumes nothing.
use Rattle.std.specs.Prelude.{ℕ, ◌+◌, ◌≤◌, ◌<◌, ◌≡◌, List, length}
use Rattle.counting.specs.Lists.{at, count}
use Rattle.division.specs.Prices.{Over, Tight, Agree}
use Rattle.division.specs.Shares.{division_total}
use Rattle.queues.specs.Queue.{Linked}

-- the place p has the lowest site that s is tight for, of the first k places
pub record Lowest (v : ℕ → ℕ → ℕ) (d : ℕ → ℕ) (D : List ℕ) (s k : ℕ) (sites : List ℕ) (p : ℕ) : Type 0 where
  pub within : p < k
  pub tight : Tight v d D s (at sites p)
  pub low : (j : ℕ) → j < k → Tight v d D s (at sites j) → at sites p ≤ at sites j

-- the street s will go to the site of the place q, and the streets on the path from there to the place p have gone on
pub record Turning (D E : List ℕ) (s q : ℕ) (sites streets nexts : List ℕ) (p : ℕ) : Type 0 where
  pub long : length E ≡ length D
  pub upto : Agree D E (s + 1)
  pub rest : (j : ℕ) → 0 < j → j ≤ p → at E (at streets j) ≡ at sites j
  pub over : Over D E (at sites q) (at sites p)
  pub total : (v : ℕ → ℕ → ℕ) (d : ℕ → ℕ) → Linked v d D (q + 1) sites streets nexts
      → division_total v E + d (at sites q) ≡ division_total v D + d (at sites p)

-- the street s stands at the site of the place q, and all on the path back have gone on: no count has changed, and no total by tight moves
pub record Turned (D E : List ℕ) (s q : ℕ) (sites streets nexts : List ℕ) : Type 0 where
  pub long : length E ≡ length D
  pub before : Agree D E s
  pub moved : at E s ≡ at sites q
  pub counts : (z : ℕ) → count E z ≡ count D z
  pub total : (v : ℕ → ℕ → ℕ) (d : ℕ → ℕ) → Linked v d D (q + 1) sites streets nexts → Tight v d D s (at sites q)
      → division_total v E ≡ division_total v D
