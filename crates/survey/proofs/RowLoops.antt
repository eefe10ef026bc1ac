-- Laws of rows, places and scores, and of the loops over a row.
-- Assumes nothing.
use mathlib.Core.Path.{◌≡◌, refl, sym, ap, ◌∙◌}
use mathlib.Core.Bool.{Bool, true, false}
use mathlib.Core.List.{List, [], ◌∷◌, ◌++◌, append-nil}
use Prim.Native.Nat.{ℕ, suc, ◌+◌, ◌-◌, ◌*◌, ◌≤◌, ◌<◌}
use native.Mathlib.Nat.{add-sub_cancel_left}
use native.Mathlib.Numerals.{add-one}
use native.Mathlib.Omega.{arith}
use lib.Dec.{eqb, lit<}
use lib.ListN.{length, get_or, take, drop, set}
use lib.Seq.{take-suc, drop-cons, append_snoc, take-length, drop-length}
use borrow.Author.Tests.{ne_eqb}
use Rattle.counting.specs.Lists.{at, has}
use Rattle.counting.specs.Flags.{Flags}
use Rattle.counting.proofs.Flagging.{flags-more}
use Rattle.survey.specs.Rows.{ranked_part, row_at}
use Rattle.survey.specs.Refusals.{site_refusal, byte_refusal}

-- ---- the ranked part, found by a loop that has passed the first i bytes of a row
pub ranked-stop : (row : List ℕ) (i : ℕ) → i < length row → ranked_part row ≡ take i row ++ ranked_part (drop i row) → at row i ≡ 0 → take i row ≡ ranked_part row
ranked-stop row i l e z =
    let d : ranked_part (drop i row) ≡ [] = rw (drop-cons row i 0 l, z) refl in
    sym (append-nil (take i row)) ∙ sym (rw d at e)

pub ranked-more : (row : List ℕ) (i : ℕ) → i < length row → ranked_part row ≡ take i row ++ ranked_part (drop i row) → (at row i ≡ 0 → ⊥) → ranked_part row ≡ take (i + 1) row ++ ranked_part (drop (i + 1) row)
ranked-more row i l e z =
    let t : eqb (at row i) 0 ≡ false = ne_eqb _ _ z in
    let d : ranked_part (drop i row) ≡ at row i ∷ ranked_part (drop (suc i) row) = rw (drop-cons row i 0 l, t) refl in
    rw (add-one, take-suc row i 0 l, append_snoc) (e ∙ ap (λ (x : List ℕ). take i row ++ x) d)

pub ranked-all : (row : List ℕ) (i e : ℕ) → e ≤ i → i ≤ e → e ≡ length row → ranked_part row ≡ take i row ++ ranked_part (drop i row) → row ≡ ranked_part row
ranked-all row i e a b q h =
    let s : i ≡ length row = omega arith in
    let h' : ranked_part row ≡ take (length row) row ++ ranked_part (drop (length row) row) = rw s at h in
    sym (h' ∙ rw (take-length, drop-length) (append-nil row))

-- ---- the table of bytes seen so far, after one byte more
pub seen_more : (row : List ℕ) (seen : List Bool) (j : ℕ) → j < length row → at row j < 256 → Flags seen (take j row) → Flags (set seen (at row j) true) (take (j + 1) row)
seen_more row seen j l small h = rw (add-one, take-suc row j 0 l) (flags-more seen (take j row) (at row j) small h)

-- the refusal of a byte, looked up in the table
pub byte-is : (m : ℕ) (row : List ℕ) (seen : List Bool) (j r : ℕ) → Flags seen (take j row) → at row j < 256 → r ≡ site_refusal m (get_or seen 0 false) (get_or seen (at row j) false) (at row j) → r ≡ byte_refusal m row j
byte-is m row seen j r h l e =
    e ∙ ap (λ (t : Bool). site_refusal m t (get_or seen (at row j) false) (at row j)) (h.right 0 (lit< tt))
    ∙ ap (λ (t : Bool). site_refusal m (has 0 (take j row)) t (at row j)) (h.right (at row j) l)

-- ---- parts of the flat buffer
pub row-part : (m : ℕ) (rows : List ℕ) (i : ℕ) → take (i * m + m - i * m) (drop (i * m) rows) ≡ row_at m rows i
row-part m rows i = ap (λ (z : ℕ). take z (drop (i * m) rows)) (add-sub_cancel_left (i * m) m)
