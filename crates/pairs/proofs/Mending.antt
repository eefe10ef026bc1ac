-- Laws of the tables while their rows are made anew, one row after another.
-- Assumes nothing.
use mathlib.Core.Path.{◌≡◌, refl, sym, subst, ◌∙◌}
use mathlib.Core.Logic.{◌≢◌, by_cases}
use mathlib.Core.List.{List}
use Prim.Native.Nat.{ℕ, ◌+◌, ◌-◌, ◌*◌, ◌≤◌, ◌<◌}
use native.Mathlib.Decide.{dec_lt, ℕ_discrete}
use native.Mathlib.Omega.{arith}
use lib.ListN.{length}
use Rattle.counting.specs.Lists.{at, cell}
use Rattle.counting.proofs.Parts.{part, put, part_length, put-before, put_in, put-behind}
use Rattle.counting.proofs.Tables.{row_within, in_rows}
use Rattle.pairs.specs.Moves.{Row, Tables, Renewed, Mended}

-- a row of a table that was lent and has come back
module _ (w a : ℕ) (table row : List ℕ) (row-ends-in : a * w + w ≤ length table) (same : length row ≡ length (part (a * w) (a * w + w) table)) where
  -- what came back is as long as the row
  row-long : length row ≡ a * w + w - a * w
  row-long = same ∙ part_length (a * w) (a * w + w) table row-ends-in

  -- the row has the new numbers
  row_in : (b : ℕ) → b < w → cell (put (a * w) (a * w + w) table row) w a b ≡ at row b
  row_in b lb = put_in (a * w) (a * w + w) table row-ends-in row (omega arith) row-long b (omega arith)

  -- the other rows have theirs
  row_other : (x b : ℕ) → x ≢ a → b < w → cell (put (a * w) (a * w + w) table row) w x b ≡ cell table w x b
  row_other x b d lb =
      by_cases (dec_lt x a)
      (λ k. put-before (a * w) (a * w + w) table row-ends-in row (omega arith) row-long (x * w + b) (in_rows x a w b k lb))
      (λ k. put-behind (a * w) (a * w + w) table row-ends-in row (omega arith) row-long (x * w + b)
      (omega (arith, row_within x w a (omega arith))))

-- so one row of both tables is made anew
pub renewed : {values division : List ℕ} {w a : ℕ} {pairs gains : List ℕ} (p g : List ℕ) → a * w + w ≤ length pairs → a * w + w ≤ length gains
    → length p ≡ length (part (a * w) (a * w + w) pairs) → length g ≡ length (part (a * w) (a * w + w) gains)
    → Row (cell values w) (at division) a (length division) (length division) w (at g) (at p)
    → Renewed values division w a pairs gains (put (a * w) (a * w + w) pairs p) (put (a * w) (a * w + w) gains g)
renewed {w = w} {a} {pairs} {gains} p g sp sg fp fg h =
    record {
      row = λ b lb. rw (row_in w a gains g sg fg b lb, row_in w a pairs p sp fp b lb) (h b lb);
      gains-kept = λ x b lx d lb. row_other w a gains g sg fg x b d lb;
      pairs-kept = λ x b lx d lb. row_other w a pairs p sp fp x b d lb;
    }

-- no row is made yet, and all are to be
pub mended-none : (values division : List ℕ) (w : ℕ) (pairs gains : List ℕ) → Mended values division w (λ l. l) 0 w pairs gains
mended-none values division w pairs gains a l free = absurd (free a (omega arith) l refl)

module _ {values division : List ℕ} {w : ℕ} {xs : ℕ → ℕ} {i e : ℕ} {pairs gains : List ℕ} where
  -- the row of the next site is made anew
  pub mended-more : {pairs' gains' : List ℕ} → Renewed values division w (xs i) pairs gains pairs' gains'
      → Mended values division w xs i e pairs gains → Mended values division w xs (i + 1) e pairs' gains'
  mended-more {pairs'} {gains'} r h a l free = by_cases (ℕ_discrete (xs i) a) new old
    where
      new : xs i ≡ a → Row (cell values w) (at division) a (length division) (length division) w (cell gains' w a) (cell pairs' w a)
      new q = subst (λ (x : ℕ). Row (cell values w) (at division) x (length division) (length division) w (cell gains' w x) (cell pairs' w x)) q r.row

      old : xs i ≢ a → Row (cell values w) (at division) a (length division) (length division) w (cell gains' w a) (cell pairs' w a)
      old d b lb =
          rw (r.gains-kept a b l (λ q. d (sym q)) lb, r.pairs-kept a b l (λ q. d (sym q)) lb)
          (h a l (λ k m z. by_cases (ℕ_discrete i k) (λ q. rw q at d) (λ q. free k (omega arith) z)) b lb)

  -- no row is left
  pub mended-all : e ≤ i → Mended values division w xs i e pairs gains → Tables values division w pairs gains
  mended-all k h = record { paired = λ a l. h a l (λ x m z. absurd (omega arith)) }
