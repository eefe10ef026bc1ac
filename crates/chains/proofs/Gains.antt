-- Laws of the closed chain that a search finds: it can be walked back to, it gains, and the best moves from the sites that are not on it stay.
-- Assumes nothing.
use mathlib.Core.Path.{◌≡◌, ◌∙◌}
use mathlib.Core.Logic.{◌≢◌}
use mathlib.Core.List.{List}
use Prim.Native.Nat.{ℕ, ◌+◌, ◌-◌, ◌≤◌, ◌<◌}
use native.Mathlib.Nat.{mul-le-mul_right}
use native.Mathlib.Omega.{arith}
use lib.ListN.{length}
use Rattle.std.specs.Prelude.{Some}
use Rattle.counting.specs.Lists.{at, cell}
use Rattle.counting.proofs.Parts.{part, part_length, part_at}
use Rattle.division.specs.Shares.{division_total}
use Rattle.pairs.specs.Moves.{Tables, Mended}
use Rattle.pairs.proofs.Moves.{row-alike}
use Rattle.rings.specs.Rings.{moved, Moves, Walkable, Walked}
use Rattle.rings.proofs.Moved.{moved_length, moved-total, moved-alike}
use Rattle.chains.specs.Chains.{Searched, Raised, Closed}
use Rattle.chains.proofs.Search.{climb, raised_by}
use Rattle.chains.proofs.Improving.{Improving, inside}

-- a closed chain is what a walk back has found
pub ring-closed : {via : ℕ → ℕ → ℕ} {D : List ℕ} {w k : ℕ} {ts xs : ℕ → ℕ} {from q : ℕ} → Walked via D w k ts xs from q → Closed D w ts xs from q
ring-closed ring = record { trail = ring.trail; closed = ring.closed; site = ring.site }

module _ {values shares D low prices vias pairs gains : List ℕ} (k : ℕ)
    (h : Improving values shares D low prices vias pairs gains) (less : k < length shares) where
  -- from a site that the last layer raised one can walk back
  pub walkable : {b : ℕ} → Searched values shares D (length shares) (k + 1) low prices vias
      → Raised (cell vias (length shares) k) (length D) (length shares) (length shares) (Some b)
      → Walkable vias D (length shares) (k + 1) b
  walkable s (o, top) = record {
    start = o;
    raised = λ p q. let same : k ≡ p = omega arith in rw same at top;
    back = raised_by s (inside D h.problem h.shared);
    sited = inside D h.problem h.shared;
    layers-fit = omega (arith, h.buffers.vias-fit, mul-le-mul_right {m = k + 1} {n = length shares} (length shares) (omega arith));
    fits = omega (arith, h.problem.few-sites);
    few-sites = h.problem.few-sites;
  }

  -- the walk holds the chain that it has found
  pub ring-moves : {via : ℕ → ℕ → ℕ} {streets : List ℕ} {xs : ℕ → ℕ} {from q : ℕ} → Walked via D (length shares) (k + 1) (at streets) xs from q
      → Moves (length D) streets from q
  ring-moves ring = record { fits = omega (arith, ring.fits, h.problem.few-sites); within = ring.trail.street }

module _ {values shares D : List ℕ} {w k : ℕ} {low prices vias : List ℕ} {ts xs : ℕ → ℕ} {from q : ℕ}
    (h : Searched values shares D w k low prices vias) (sites : (s : ℕ) → s < length D → at D s < w)
    (ring : Walked (cell vias w) D w k ts xs from q) where
  -- each move of the chain brings the rise of the price
  step : (l : ℕ) → from ≤ l → l < from + q
      → cell prices w (l + 1) (xs (l + 1)) + cell values w (ts l) (xs l) ≡ cell prices w l (xs l) + cell values w (ts l) (xs (l + 1))
  step l a b =
      let site = h.layers l (omega (arith, ring.fits)) (xs (l + 1)) (ring.site (l + 1) (omega arith) (omega arith)) in
      let by = rw (← ring.by l a b) at site.by in
      rw (ring.trail.site l a b) at (by (ring.trail.street l a b))

  -- the last move raised the price of the site where the chain began
  rise : (r : ℕ) → from ≤ r → r + 1 ≡ from + q → cell prices w from (xs from) < cell prices w (from + q) (xs (from + q))
  rise r a e =
      let o : xs (r + 1) < w = ring.site (r + 1) (omega arith) (omega arith) in
      let site = h.layers r (omega (arith, ring.fits)) (xs (r + 1)) o in
      let rose = rw (← ring.by r a (omega arith)) at site.rose in
      let up : cell prices w r (xs (r + 1)) < cell prices w (r + 1) (xs (r + 1)) = rose (ring.trail.street r a (omega arith)) in
      let before : cell prices w from (xs (r + 1)) ≤ cell prices w r (xs (r + 1)) =
      climb h sites (xs (r + 1)) from (r - from) r o (omega arith) (omega (arith, ring.fits)) in
      let same : xs (r + 1) ≡ xs from = rw (← e) at ring.closed in
      let high : cell prices w from (xs (r + 1)) < cell prices w (r + 1) (xs (r + 1)) = omega arith in
      rw (← e, ← same) high

  -- so a closed chain gains
  pub ring-gains : {E : List ℕ} → E ≡ moved D ts xs from q → division_total (cell values w) D < division_total (cell values w) E
  ring-gains e =
      rw e
      (omega (
        arith,
        moved-total (cell values w) (λ l. cell prices w l (xs l)) q ring.trail step,
        rise (from + q - 1) (omega (arith, ring.some)) (omega (arith, ring.some)),
      ))

-- the sites of a chain's moves, as they are lent
abbrev moving : ℕ → ℕ → List ℕ → List ℕ
moving from q sites = part from (from + q) sites

-- the best moves from the sites that are not on a closed chain stay
pub ring-mends : {values D E : List ℕ} {w : ℕ} {pairs gains : List ℕ} {ts : ℕ → ℕ} (sites : List ℕ) {from q : ℕ} → Tables values D w pairs gains
    → Closed D w ts (at sites) from q → from + q ≤ length sites → E ≡ moved D ts (at sites) from q
    → Mended values E w (at (moving from q sites)) 0 (length (moving from q sites)) pairs gains
ring-mends {D = D} {ts = ts} sites {from} {q} tables ring fits e a l free =
    rw (e, moved_length D ts (at sites) from q)
    (row-alike (moved-alike ring.trail ring.closed a off) (tables.paired a l))
  where
    off : (p : ℕ) → from ≤ p → p < from + q → at sites p ≢ a
    off p m n z =
        let place : from + (p - from) ≡ p = omega arith in
        let there : at (moving from q sites) (p - from) ≡ at sites p = rw place at (part_at from (from + q) sites fits (p - from) (omega arith)) in
        free (p - from) (omega arith) (omega (arith, part_length from (from + q) sites fits)) (there ∙ z)

-- each of them is a site
pub ring-sites : {D : List ℕ} {w : ℕ} {ts : ℕ → ℕ} (sites : List ℕ) {from q : ℕ} → Closed D w ts (at sites) from q → from + q ≤ length sites
    → (l : ℕ) → l < length (moving from q sites) → at (moving from q sites) l < w
ring-sites sites {from} {q} ring fits l m =
    let less : l < q = omega (arith, part_length from (from + q) sites fits) in
    rw (part_at from (from + q) sites fits l (omega arith)) (ring.site (from + l) (omega arith) (omega arith))
