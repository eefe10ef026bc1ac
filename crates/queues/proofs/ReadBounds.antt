-- Bounds of what the functions of the queue read and store.
-- Assumes nothing.
use mathlib.Core.Path.{◌≡◌, refl}
use mathlib.Core.Bool.{Bool, false}
use mathlib.Core.List.{List}
use Prim.Native.Nat.{ℕ, ◌+◌, ◌*◌, ◌≤◌, ◌<◌}
use native.Mathlib.Nat.{mul-le-mul}
use native.Mathlib.Omega.{arith}
use lib.ListN.{length}
use Rattle.counting.specs.Bounds.{most_streets, most_width, most_entries, most_value, most_price}
use Rattle.counting.specs.Lists.{at, cell}
use Rattle.counting.proofs.Tables.{in_rows}
use Rattle.queues.specs.Queue.{PricedTable, flag, Placed, Grown}
use Rattle.queues.specs.Tights.{RowOf, Rowed, most_tights}
use Rattle.queues.proofs.QueueGrowth.{placed-room}
use Rattle.queues.proofs.TightRows.{place-row, row_fits}

-- what a test of a street t and a site y reads, and the sums that it compares
pub record Weighed (values prices : List ℕ) (w t x y : ℕ) : Type 0 where
  pub few-sites : w ≤ most_width
  pub few-values : length values ≤ most_entries
  pub site : x < length prices
  pub other : y < length prices
  pub site-value : t * w + x < length values
  pub other-value : t * w + y < length values
  pub left : at prices x + cell values w t y ≤ most_price + most_value
  pub right : at prices y + cell values w t x ≤ most_price + most_value

-- a priced table has all that
pub weighed : {values prices D : List ℕ} {w : ℕ} (t y : ℕ) → PricedTable values prices D w → (t < length D) × (y < w)
    → Weighed values prices w t (at D t) y
weighed {values} {prices} {D} {w} t y h (l, m) =
    let x : ℕ = at D t in
    let site : x < w = h.sited t l in
    record {
      few-sites = h.few-sites;
      few-values = omega (arith, h.rows, mul-le-mul {n₁ = length D} {m₁ = w} {n₂ = most_streets} {m₂ = most_width} h.few h.few-sites);
      site = omega (arith, h.size);
      other = omega (arith, h.size);
      site-value = omega (arith, h.rows, in_rows t (length D) w x l site);
      other-value = omega (arith, h.rows, in_rows t (length D) w y l m);
      left = omega (arith, h.low x, h.small (t * w + y));
      right = omega (arith, h.low y, h.small (t * w + x));
    }

-- what a walk over the row of the site y reads, which has the place i
pub record Walk (v : ℕ → ℕ → ℕ) (d : ℕ → ℕ) (D tights ends sites : List ℕ) (i y : ℕ) : Type 0 where
  pub few : length D ≤ most_streets
  pub small : y < most_width
  pub here : at sites i ≡ y
  pub row : RowOf v d D tights ends y
  pub fits : (j : ℕ) → j ≤ at ends y → y * (length D + 1) + j < most_tights

-- a place of the queue has all that
pub walk : {values prices D : List ℕ} {w k : ℕ} {streets nexts sites : List ℕ} {flags : List Bool} {v : ℕ → ℕ → ℕ} {d : ℕ → ℕ} {s : ℕ} {n : ℕ} (i y : ℕ)
    (tights ends : List ℕ) → PricedTable values prices D w → (i < k) × (s < length D)
    → Rowed v d D tights ends → Grown v d D s w k sites streets nexts flags n → y ≡ at sites i → Walk v d D tights ends sites i y
walk {values} {prices} {D} {w} {k} {streets} {nexts} {sites} {flags} {v} {d} {s} {n} i y tights ends h (l, m) rowed g e =
    let site : at sites i < w = g.placed.within i l in
    let row : RowOf v d D tights ends (at sites i) = place-row i tights ends m l g rowed in
    rw e
    (record {
      few = h.few;
      small = omega (arith, h.few-sites);
      here = refl;
      row = row;
      fits = λ j o. row_fits (at sites i) j site (omega (arith, row.fits)) h.few-sites h.few;
    })

-- what a street that joins reads, where its site has no flag, and the place that it gets
pub record Joining (w k : ℕ) (sites : List ℕ) (i x : ℕ) : Type 0 where
  pub small : x < w
  pub few-sites : w ≤ most_width
  pub few : k < most_width
  pub site : at sites i < w

pub joining : {values prices D : List ℕ} {w k : ℕ} {sites : List ℕ} {flags : List Bool} (i t : ℕ) → PricedTable values prices D w
    → Placed w k sites flags → (i < k) × (t < length D) → flag flags (at D t) ≡ false → Joining w k sites i (at D t)
joining {D = D} {w} {k} i t h p (l, m) new =
    let small : at D t < w = h.sited t m in
    record { small = small; few-sites = h.few-sites; few = omega (arith, h.few-sites, placed-room p (at D t) small new); site = p.within i l }
