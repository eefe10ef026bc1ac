-- Laws of a layer that is written into a row of the tables: the room for it, what it is made of, and the search with it.
-- Assumes nothing.
use mathlib.Core.Path.{◌≡◌, refl, sym, ◌∙◌}
use mathlib.Core.List.{List}
use Prim.Native.Nat.{ℕ, ◌+◌, ◌*◌, ◌-◌, ◌≤◌, ◌<◌}
use native.Mathlib.Nat.{mul-le-mul_right}
use native.Mathlib.Omega.{arith}
use lib.ListN.{length}
use Rattle.std.specs.Prelude.{Option, Some, None}
use Rattle.counting.specs.Bounds.{most_width}
use Rattle.counting.specs.Lists.{at, cell}
use Rattle.counting.proofs.Tables.{row_within}
use Rattle.counting.proofs.Parts.{part, put, part_length, part_at, put-length, put-before, put_in}
use Rattle.division.specs.Shares.{InShares}
use Rattle.division.specs.Problem.{Problem, tail}
use Rattle.layers.specs.Layers.{Layerable, Fitting, Layer}
use Rattle.chains.specs.Chains.{Buffers, Searched, Raised}
use Rattle.chains.proofs.Search.{layer-same, searched-next}
use Rattle.chains.proofs.Improving.{inside}

-- a row of a width from an index on, and a table with another row there
abbrev pub row_at : ℕ → ℕ → List ℕ → List ℕ
row_at from w table = part from (from + w) table

abbrev pub with_row : ℕ → ℕ → List ℕ → List ℕ → List ℕ
with_row from w table row = put from (from + w) table row

-- a row that was written still lies in its table
pub written : (from w : ℕ) (table row : List ℕ) → from + w ≤ length table → length row ≡ length (row_at from w table)
    → from + w ≤ length (with_row from w table row)
written from w table row fits same =
    let long : length row ≡ from + w - from = omega (arith, part_length from (from + w) table fits) in
    omega (arith, put-length from (from + w) table fits row (omega arith) long)

-- a search of k layers that is to be made one layer deeper
pub record Deepening (values shares division : List ℕ) (k : ℕ) (low prices vias : List ℕ) : Type 0 where
  pub problem : Problem values shares (length division)
  pub shared : InShares division (tail shares)
  pub less : k < length shares
  pub buffers : Buffers (length shares) low prices vias
  pub searched : Searched values shares division (length shares) k low prices vias

-- row k of the raising streets and row k + 1 of the prices lie in their tables, which are small
pub record Room (w k : ℕ) (prices vias : List ℕ) : Type 0 where
  pub in-vias : k * w + w ≤ length vias
  pub in-prices : k * w + w + w ≤ length prices
  pub small : length prices ≤ (most_width + 1) * most_width

module _ {values shares division : List ℕ} {k : ℕ} {low prices vias : List ℕ} (h : Deepening values shares division k low prices vias) where
  pub room : Room (length shares) k prices vias
  room =
      let w : ℕ = length shares in
      record {
        in-vias = omega (arith, h.buffers.vias-fit, row_within w w k h.less);
        in-prices = omega (arith, h.buffers.prices-fit, row_within (w + 1) w (k + 1) (omega (arith, h.less)));
        small = omega (arith, h.buffers.prices-fit, h.problem.few-sites, mul-le-mul_right {m = w} {n = most_width} w h.problem.few-sites);
      }

  -- the last prices are what a layer can be made of
  pub layerable : Layerable low values division
  layerable = record {
    size = rw h.buffers.low_fits h.problem.size;
    sites = λ s l. omega (arith, h.buffers.low_fits, inside division h.problem h.shared s l);
    small = h.problem.small;
    low = λ a. omega (arith, h.searched.small a, h.less, h.problem.few-sites);
  }

  -- and its rows fit
  pub fitted : Fitting (length low) (length division) (row_at (k * length shares + length shares) (length shares) prices)
      (row_at (k * length shares) (length shares) vias) shares
  fitted =
      let w : ℕ = length shares in
      record {
        after-fits = omega (arith, h.buffers.low_fits, part_length (k * w + w) (k * w + w + w) prices room.in-prices);
        via-fits = omega (arith, h.buffers.low_fits, part_length (k * w) (k * w + w) vias room.in-vias);
        shares-fit = sym h.buffers.low_fits;
        few = h.problem.few;
        few-sites = omega (arith, h.buffers.low_fits, h.problem.few-sites);
      }

  -- with the layer written, the search is one layer deeper
  pub deepened : (after via : List ℕ) {low' prices' vias' : List ℕ}
      → length after ≡ length (row_at (k * length shares + length shares) (length shares) prices)
      → length via ≡ length (row_at (k * length shares) (length shares) vias)
      → Layer (cell values (length low)) (at low) (at division) (at shares) (length division) (length low) (at after) (at via)
      → prices' ≡ with_row (k * length shares + length shares) (length shares) prices after
      → vias' ≡ with_row (k * length shares) (length shares) vias via
      → low' ≡ row_at (k * length shares + length shares) (length shares) prices'
      → Searched values shares division (length shares) (k + 1) low' prices' vias'
  deepened after via {low'} {prices'} after-fits via-fits new p v c =
      let w : ℕ = length shares in
      let from : ℕ = k * w in
      let to : ℕ = k * w + w in
      let end : ℕ = k * w + w + w in
      let in-prices : end ≤ length prices = room.in-prices in
      let in-vias : to ≤ length vias = room.in-vias in
      let row : length after ≡ end - to = after-fits ∙ part_length to end prices in-prices in
      let via-row : length via ≡ to - from = via-fits ∙ part_length from to vias in-vias in
      let long : length prices' ≡ length prices = rw p (put-length to end prices in-prices after (omega arith) row) in
      let price : (b : ℕ) → b < w → at low' b ≡ at prices' (to + b) = λ b l. rw c (part_at to end prices' (omega arith) b (omega arith)) in
      let added : (b : ℕ) → b < w → at prices' (to + b) ≡ at after b =
      λ b l. rw p (put_in to end prices in-prices after (omega arith) row b (omega arith)) in
      let next : (b : ℕ) → (k + 1) * w + b ≡ to + b = λ b. omega arith in
      let low-length : length low' ≡ w = rw c (omega (arith, part_length to end prices' (omega arith))) in
      let sites = inside division h.problem h.shared in
      let layer = layer-same sites (λ b l. refl) (λ b l. sym (price b l ∙ added b l)) (λ b l. refl) (rw h.buffers.low_fits at new) in
      searched-next h.searched sites via h.problem.small low-length
      (λ i l. rw p (put-before to end prices in-prices after (omega arith) row i (omega arith)))
      (λ b l. rw (next b) (sym (price b l)))
      (λ i l. rw v (put-before from to vias in-vias via (omega arith) via-row i l))
      (λ b l. rw v (put_in from to vias in-vias via (omega arith) via-row b (omega arith)))
      layer

  -- of the raising streets that were written
  pub raised-row : (via low' : List ℕ) (n : ℕ) (r : Option ℕ) → length via ≡ length (row_at (k * length shares) (length shares) vias) → length low' ≡ length low
      → Raised (at (row_at (k * length shares) (length shares) (with_row (k * length shares) (length shares) vias via))) n (length low') (length low') r
      → Raised (cell (with_row (k * length shares) (length shares) vias via) (length shares) k) n (length shares) (length shares) r
  raised-row via low' n r fits e top =
      elim r as (λ x. Raised (at (row_at from w new)) n (length low') (length low') x → Raised (cell new w k) n w w x) [
        | None ↦ λ h b m. omega (arith, same b m, h b (omega (arith, long)))
        | Some x ↦ λ h. let (l, m) = h in (omega (arith, long), omega (arith, same x (omega (arith, long))))
      ] top
    where
      w : ℕ
      w = length shares

      from : ℕ
      from = k * length shares

      new : List ℕ
      new = with_row from w vias via

      long : length low' ≡ w
      long = e ∙ h.buffers.low_fits

      in-new : from + w ≤ length new
      in-new = written from w vias via room.in-vias fits

      same : (b : ℕ) → b < w → at (row_at from w new) b ≡ cell new w k b
      same b l = part_at from (from + w) new in-new b (omega arith)
