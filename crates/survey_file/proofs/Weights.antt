-- Laws of the record HW in either form of a file: read as it is written, written as it is read, and what an old file keeps of the weights.
-- Assumes nothing.
use mathlib.Core.Path.{◌≡◌, refl, sym, ap, ◌∙◌}
use mathlib.Core.Bool.{Bool, true, false, not, true≢false}
use mathlib.Core.List.{List, ◌++◌}
use Prim.Native.Nat.{ℕ, ◌+◌, ◌≤◌, zero-le}
use native.Mathlib.Omega.{arith}
use lib.Dec.{lit<}
use lib.ListN.{length, take, drop, replicate, length-append, length-drop, length-replicate, get_or-replicate, take-append-drop}
use lib.Seq.{length-take-le, take-append_seam, drop-append-add, drop-append_seam, drop-drop, ext_get_or}
use Rattle.counting.specs.Lists.{at}
use Rattle.counting.proofs.Refusals.{or-zero, exact, first-none, first-zeros}
use Rattle.survey.specs.Refusals.{weights_refusal}
use Rattle.survey.proofs.LeastWeights.{ones-accepted}
use Rattle.survey_file.specs.Filed.{lost_refusal, form_refusal}
use Rattle.survey_file.specs.Encode.{weights_mark, word, weights_bytes}
use Rattle.survey_file.specs.Decode.{mark_refusal, weights_in, weights_fields, weights_record, weights_size, short_refusal}
use Rattle.survey_file.proofs.Tries.{both, as-due, short-says, short-right, mark-says, mark-right}
use Rattle.survey_file.proofs.Bytes.{Bytes, word-front}

-- ---- the form, where code asked for the other one
pub new-from : (new_form : Bool) → not new_form ≡ false → new_form ≡ true
new-from false e = absurd (true≢false e)
new-from true e = refl

pub old-from : (new_form : Bool) → not new_form ≡ true → new_form ≡ false
old-from false e = refl
old-from true e = absurd (true≢false (sym e))

-- ---- what an old file keeps
-- where it loses nothing each weight is 1
pub lost-none : (weights : List ℕ) → form_refusal false weights ≡ 0 → weights ≡ replicate (length weights) 1
lost-none weights e =
    ext_get_or 0 weights (replicate (length weights) 1) (sym (length-replicate (length weights) 1)) (λ i l.
    exact 25 (at weights i) 1 (lit< tt) (first-none (length weights) (λ j. lost_refusal (at weights j)) e i l)
    ∙ sym (get_or-replicate (length weights) i 1 0 l))

-- weights of 1 are lost in neither form
pub ones-kept : (new_form : Bool) (n : ℕ) → form_refusal new_form (replicate n 1) ≡ 0
ones-kept false n =
    first-zeros (length (replicate n 1)) (λ i. lost_refusal (at (replicate n 1) i)) (λ i l.
    as-due 25 (at (replicate n 1) i) 1 (get_or-replicate n i 1 0 (omega (arith, length-replicate {A = ℕ} n 1))))
ones-kept true n = refl

-- ---- the record of n weights as it is written, and what stands behind it
module _ (n : ℕ) (weights z : List ℕ) (fit : length weights ≡ n) where
  -- how long it is
  pub weights-length : (new_form : Bool) → length (weights_bytes new_form weights) ≡ weights_size new_form n
  weights-length false = refl
  weights-length true = omega arith

  -- the weights come back, those that an old file keeps
  pub weights-back : (new_form : Bool) → form_refusal new_form weights ≡ 0 → weights_in new_form n (weights_bytes new_form weights ++ z) ≡ weights
  weights-back false e = rw (← fit) (sym (lost-none weights e))
  weights-back true e = rw (← fit) (take-append_seam weights z)

  -- it is accepted where the weights are
  pub weights-right : (new_form : Bool) → weights_refusal weights ≡ 0 → weights_record new_form n (weights_bytes new_form weights ++ z) ≡ 0
  weights-right false e = refl
  weights-right true e =
      let rest : List ℕ = word weights_mark ++ weights ++ z in
      let room : length (weights ++ z) ≡ length weights + length z = length-append weights z in
      both _ _ (mark-right weights_mark rest (omega arith) refl)
      (both _ _ (short-right rest (2 + n) (omega arith)) (ap (λ (x : List ℕ). weights_refusal x) (weights-back true refl) ∙ e))

  -- behind the record stands what was behind it
  pub weights-behind : (new_form : Bool) → drop (weights_size new_form n) (weights_bytes new_form weights ++ z) ≡ z
  weights-behind false = refl
  weights-behind true = rw (← fit) (drop-append-add (word weights_mark) (weights ++ z) (length weights) ∙ drop-append_seam weights z)

-- ---- the record of a file that is not refused
module _ (n : ℕ) (rest : List ℕ) where
  -- its bytes are there
  pub weights-whole : (new_form : Bool) → weights_record new_form n rest ≡ 0 → weights_size new_form n ≤ length rest
  weights-whole false e = zero-le
  weights-whole true e = short-says rest (2 + n) (or-zero (short_refusal rest (2 + n)) _ (or-zero (mark_refusal weights_mark rest) (weights_fields n rest) e).1).0

  -- it gives n weights
  pub weights-fit : (new_form : Bool) → weights_record new_form n rest ≡ 0 → length (weights_in new_form n rest) ≡ n
  weights-fit false e = length-replicate n 1
  weights-fit true e = length-take-le n (drop 2 rest) (omega (arith, weights-whole true e, length-drop 2 rest))

  -- they are accepted
  pub weights-sound : (new_form : Bool) → weights_record new_form n rest ≡ 0 → weights_refusal (weights_in new_form n rest) ≡ 0
  weights-sound false e = ones-accepted n
  weights-sound true e = (or-zero (short_refusal rest (2 + n)) _ (or-zero (mark_refusal weights_mark rest) (weights_fields n rest) e).1).1

  -- and it is their record written again
  pub weights-front : (new_form : Bool) → Bytes rest → weights_record new_form n rest ≡ 0
      → rest ≡ weights_bytes new_form (weights_in new_form n rest) ++ drop (weights_size new_form n) rest
  weights-front false bytes e = refl
  weights-front true bytes e =
      let (room, mark) = mark-says weights_mark rest (or-zero (mark_refusal weights_mark rest) (weights_fields n rest) e).0 in
      word-front rest 0 bytes room ∙ ap (λ (x : ℕ). word x ++ drop 2 rest) mark
      ∙ ap (λ (x : List ℕ). word weights_mark ++ x) (sym (take-append-drop n (drop 2 rest)) ∙ ap (λ (x : List ℕ). take n (drop 2 rest) ++ x) (drop-drop n 2 rest))
