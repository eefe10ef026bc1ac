-- Laws of the rows of the tight streets: a row grows street by street, the rows of other sites stay, and rows hold for every division whose
-- tight streets were tight before.
-- Assumes nothing.
use mathlib.Core.Path.{◌≡◌, sym}
use mathlib.Core.Logic.{by_cases}
use mathlib.Core.Bool.{Bool}
use mathlib.Core.List.{List}
use Prim.Native.Nat.{ℕ, ◌+◌, ◌-◌, ◌*◌, ◌≤◌, ◌<◌}
use native.Mathlib.Nat.{mul-le-mul}
use native.Mathlib.Decide.{dec_lt}
use native.Mathlib.Omega.{arith}
use lib.ListN.{length, set}
use lib.Seq.{get_or-set_same, get_or-set_other}
use borrow.Author.Count.{below_more}
use Rattle.counting.specs.Bounds.{most_streets, most_width}
use Rattle.counting.specs.Lists.{at}
use Rattle.counting.proofs.Tables.{in_rows}
use Rattle.queues.specs.Queue.{Grown, Growing}
use Rattle.queues.specs.Tights.{Row, RowOf, Listed, Rowed, most_tights}
use Rattle.queues.proofs.QueueGrowth.{growing-start, growing-skip}
use Rattle.division.specs.Prices.{Tight, Agree}

module _ {v : ℕ → ℕ → ℕ} {d : ℕ → ℕ} {D : List ℕ} where
  -- a row without streets
  pub row-start : (tights : List ℕ) (r y : ℕ) → at tights r ≡ 0 → Row v d D tights r 0 y 0
  row-start tights r y e =
      record {
        fits = omega arith;
        bottom = e;
        street = λ j l m. let q : r + j ≡ r = omega arith in absurd (omega (arith, rw q at m));
        gap = λ j l. absurd (omega arith);
        above = λ t l. absurd (omega arith);
      }

  module _ {tights : List ℕ} {r e y u : ℕ} (h : Row v d D tights r e y u) where
    -- a place that is not 0 is not the first
    pub row-some : (j : ℕ) → 0 < at tights (r + j) → 0 < j
    row-some j m =
        by_cases (dec_lt 0 j) (λ l. l) (λ n. let q : r + j ≡ r = omega arith in absurd (omega (arith, rw q at m, h.bottom)))

    -- between a place and the one before it no street is tight
    row-gap : (j : ℕ) → 0 < j → j ≤ e → (t : ℕ) → at tights (r + (j - 1)) < t → t < at tights (r + j) → Tight v d D t y → ⊥
    row-gap j some le t l m = let q : j - 1 + 1 ≡ j = omega arith in h.gap (j - 1) (omega arith) t l (rw q m)

    -- all streets have been looked at
    pub row-end : (n : ℕ) → u ≡ n → Row v d D tights r e y n
    row-end n q = rw q at h

    -- a list that is the same from the first place of the row to the last has the row
    pub row_same : (now : List ℕ) → ((j : ℕ) → j ≤ e → at now (r + j) ≡ at tights (r + j)) → at now r ≡ at tights r → Row v d D now r e y u
    row_same now same first =
        record {
          fits = h.fits;
          bottom = rw first h.bottom;
          street = λ j l. rw (same j l) (h.street j l);
          gap = λ j l. rw (same j (omega arith), same (j + 1) (omega arith)) (h.gap j l);
          above = rw (same e (omega arith)) h.above;
        }

    -- the street u comes last in the row
    pub row_more : r + (e + 1) < length tights → Row v d D (set tights (r + (e + 1)) u) r (e + 1) y (u + 1)
    row_more fits =
        record {
          fits = omega (arith, h.fits);
          bottom = old.bottom;
          street = λ j l. below_more (λ j. 0 < at now (r + j) → at now (r + j) < u + 1) (e + 1) (λ j l m. omega (arith, old.street j (omega arith) m))
              (λ m. omega (arith, new)) j (omega arith);
          gap = below_more (λ j. (t : ℕ) → at now (r + j) < t → t < at now (r + (j + 1)) → Tight v d D t y → ⊥) e old.gap
              (λ t l m. old.above t (omega (arith, new)) l);
          above = λ t l m. absurd (omega (arith, new));
        }
      where
        now : List ℕ
        now = set tights (r + (e + 1)) u

        new : at now (r + (e + 1)) ≡ u
        new = get_or-set_same tights (r + (e + 1)) u 0 fits

        old : Row v d D now r e y u
        old = row_same now (λ j l. get_or-set_other tights (r + (e + 1)) (r + j) u 0 (λ q. omega arith))
            (get_or-set_other tights (r + (e + 1)) r u 0 (λ q. omega arith))

  -- a row whose number of streets is stored is the site's
  pub row-stored : {tights : List ℕ} (ends : List ℕ) (y e : ℕ) → y < length ends → Row v d D tights (y * (length D + 1)) e y (length D)
      → RowOf v d D tights (set ends y e) y
  row-stored ends y e l h = rw (get_or-set_same ends y e 0 l) h

  -- the site k has its row, and those below it have kept theirs
  pub listed_more : (shares tights ends : List ℕ) (k : ℕ) (now now_ends : List ℕ) → Agree tights now (k * (length D + 1)) → Agree ends now_ends k
      → RowOf v d D now now_ends k → Listed v d D shares k tights ends → Listed v d D shares (k + 1) now now_ends
  listed_more shares tights ends k now now_ends same same_ends row h =
      below_more (λ y. 0 < at shares y → RowOf v d D now now_ends y) k old (λ l. row)
    where
      old : (y : ℕ) → y < k → 0 < at shares y → RowOf v d D now now_ends y
      old y l m =
          let r : RowOf v d D tights ends y = h y l m in
          let within : (j : ℕ) → j < length D + 1 → y * (length D + 1) + j < k * (length D + 1) = λ j n. in_rows y k (length D + 1) j l n in
          rw (same_ends y l) (row_same r now (λ j n. same (y * (length D + 1) + j) (within j (omega (arith, r.fits))))
          (same (y * (length D + 1)) (omega (arith, within 0 (omega arith)))))

  -- the site of a place of the queue has its row
  pub place-row : {s w k : ℕ} {sites streets nexts : List ℕ} {flags : List Bool} {i : ℕ} (n : ℕ) (tights ends : List ℕ) → s < length D → n < k
      → Grown v d D s w k sites streets nexts flags i → Rowed v d D tights ends → RowOf v d D tights ends (at sites n)
  place-row {s} {w} {k} {sites} {streets} {nexts} {flags} {i} n tights ends l m g rows = by_cases (dec_lt 0 n) away start
    where
      away : 0 < n → RowOf v d D tights ends (at sites n)
      away o = let e = g.queue.later n m o in rw (sym e.stands) (rows (at streets n) e.street)

      start : (0 < n → ⊥) → RowOf v d D tights ends (at sites n)
      start o = let z : n ≡ 0 = omega arith in rw (z, g.queue.start) (rows s l)

  module _ {s w k : ℕ} {sites streets nexts : List ℕ} {flags : List Bool} {i : ℕ} {tights : List ℕ} {r e y : ℕ} (row : Row v d D tights r e y (length D))
      (here : at sites i ≡ y) where
    -- the streets behind the last one of the row need no look from the place of its site
    pub growing-first : Grown v d D s w k sites streets nexts flags i → i < k → Growing v d D s w k sites streets nexts flags i (at tights (r + e) + 1)
    growing-first g l = growing-start g l (λ t m n o. row.above t n (omega arith) (rw here at o))

    -- nor those between two of the row
    pub growing-next : {u : ℕ} (j : ℕ) → 0 < j → j ≤ e → u ≡ at tights (r + j) → Growing v d D s w k sites streets nexts flags i u
        → Growing v d D s w k sites streets nexts flags i (at tights (r + (j - 1)) + 1)
    growing-next j some le q g = growing-skip _ g (λ t m n o. row-gap row j some le t (omega arith) (omega (arith, q)) (rw here at o))

-- numbers before a store stay
pub agree-set : (xs : List ℕ) (k i x : ℕ) → k ≤ i → Agree xs (set xs i x) k
agree-set xs k i x l u m = get_or-set_other xs i u x 0 (λ q. omega arith)

-- a row holds for a division whose tight streets were tight before
pub row_back : {v : ℕ → ℕ → ℕ} {d : ℕ → ℕ} {D E : List ℕ} (tights ends : List ℕ) (y : ℕ) → length E ≡ length D
    → ((t : ℕ) → t < length D → Tight v d E t y → Tight v d D t y) → RowOf v d D tights ends y → RowOf v d E tights ends y
row_back {v} {d} {D} {E} tights ends y long back h = rw long row
  where
    r : ℕ
    r = y * (length D + 1)

    row : Row v d E tights r (at ends y) y (length D)
    row = record {
      fits = h.fits;
      bottom = h.bottom;
      street = h.street;
      gap = λ j l t a b e. h.gap j l t a b (back t (omega (arith, h.street (j + 1) (omega arith) (omega arith))) e);
      above = λ t l a e. h.above t l a (back t l e);
    }

-- a row's places are within a table with rows for the most sites and the most streets
pub row_fits : {w n : ℕ} (y e : ℕ) → y < w → e ≤ n → w ≤ most_width → n ≤ most_streets → y * (n + 1) + e < most_tights
row_fits {w} {n} y e l m few many =
    omega (
      arith,
      in_rows y w (n + 1) e l (omega arith),
      mul-le-mul {n₁ = w} {m₁ = n + 1} {n₂ = most_width} {m₂ = most_streets + 1} few (omega arith),
    )
