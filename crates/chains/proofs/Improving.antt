-- What the improving loop holds from turn to turn, and that each turn gains.
-- Assumes nothing.
use mathlib.Core.Path.{◌≡◌, ◌∙◌}
use mathlib.Core.List.{List}
use Prim.Native.Nat.{ℕ, ◌+◌, ◌*◌, ◌-◌, ◌≤◌, ◌<◌}
use native.Mathlib.Omega.{arith}
use lib.ListN.{length}
use Rattle.counting.specs.Bounds.{most_value}
use Rattle.counting.specs.Lists.{at, cell}
use Rattle.division.specs.Shares.{InShares, division_total}
use Rattle.division.specs.Problem.{Problem, tail}
use Rattle.division.proofs.Counts.{division_total-bound}
use Rattle.division.proofs.ProblemShares.{sited}
use Rattle.pairs.specs.Moves.{Valued, Tables}
use Rattle.rings.specs.Rings.{moved}
use Rattle.rings.proofs.Moved.{moved_length, closed_in}
use Rattle.chains.specs.Chains.{Buffers, Closed}

-- a division in the shares with its best moves, and buffers for the search
pub record Improving (values shares division low prices vias pairs gains : List ℕ) : Type 0 where
  pub problem : Problem values shares (length division)
  pub shared : InShares division (tail shares)
  pub tables : Tables values division (length shares) pairs gains
  pub buffers : Buffers (length shares) low prices vias

-- each street's site is below the width
pub inside : {values shares : List ℕ} (division : List ℕ) → Problem values shares (length division) → InShares division (tail shares)
    → (s : ℕ) → s < length division → at division s < length shares
inside {shares = shares} division problem shared s l = (sited shares division problem.nobody shared s l).0

-- the values fit a division in the shares
pub valued : {values shares division : List ℕ} → Problem values shares (length division) → Valued values division (length shares)
valued problem = record { size = problem.size; small = problem.small; few = problem.few; few-sites = problem.few-sites }

-- the values still fit a division of as many streets
pub valued_same : {values D E : List ℕ} {w : ℕ} → length E ≡ length D → Valued values D w → Valued values E w
valued_same e h = record { size = rw e h.size; small = h.small; few = omega (arith, h.few); few-sites = h.few-sites }

module _ {values shares D low prices vias pairs gains : List ℕ}
    (h : Improving values shares D low prices vias pairs gains) where
  -- a step of the search leaves the division and its best moves as they are
  pub improving-on : {low' prices' vias' : List ℕ} → length low' ≡ length low → length prices' ≡ length prices
      → length vias' ≡ length vias → Improving values shares D low' prices' vias' pairs gains
  improving-on a b c =
      let f = h.buffers in
      record {
        problem = h.problem;
        shared = h.shared;
        tables = h.tables;
        buffers = record { low_fits = a ∙ f.low_fits; prices-fit = b ∙ f.prices-fit; vias-fit = c ∙ f.vias-fit };
      }

  -- a closed chain leaves a division in the shares
  pub improved : {E pairs' gains' : List ℕ} {ts xs : ℕ → ℕ} {from q : ℕ} → Closed D (length shares) ts xs from q → E ≡ moved D ts xs from q
      → Tables values E (length shares) pairs' gains' → Improving values shares E low prices vias pairs' gains'
  improved {ts = ts} {xs} {from} {q} ring e tables =
      let problem : Problem values shares (length (moved D ts xs from q)) = rw (moved_length D ts xs from q) h.problem in
      record { problem = rw e problem; shared = rw e (closed_in ring.trail ring.closed (tail shares) h.shared); tables = tables; buffers = h.buffers }

  -- the last prices are no more than all prices
  pub begun : length low ≤ length prices
  begun = omega (arith, h.buffers.low_fits, h.buffers.prices-fit)

-- a division that totals more is nearer to the bound
pub nearer : (values A D E : List ℕ) (w n : ℕ) → ((i : ℕ) → at values i ≤ most_value) → D ≡ A → length E ≡ n
    → division_total (cell values w) D < division_total (cell values w) E
    → n * most_value - division_total (cell values w) E < n * most_value - division_total (cell values w) A
nearer values A D E w n small e long gain =
    let most = division_total-bound (cell values w) most_value E (λ s l. small (s * w + at E s)) in
    let bound : division_total (cell values w) E ≤ n * most_value = rw long at most in
    rw (← e) (omega arith)
