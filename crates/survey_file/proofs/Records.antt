-- Each record as it is written, read again: none of its tries refuses, and its fields are what was written.
-- Assumes nothing.
use mathlib.Core.Path.{◌≡◌, refl, sym, ap, ◌∙◌}
use mathlib.Core.Bool.{Bool, true, false}
use mathlib.Core.List.{List, [], ◌∷◌, ◌++◌}
use Prim.Native.Nat.{ℕ, ◌+◌, ◌*◌, ◌≤◌, ◌<◌}
use native.Mathlib.Omega.{arith}
use lib.ListN.{length, length-append, drop}
use lib.Seq.{take-append_seam, drop-append_seam, drop-append-add, ext_get_or}
use Rattle.counting.specs.Words.{◌or_else◌, first_nonzero}
use Rattle.counting.specs.Lists.{at}
use Rattle.counting.specs.Buffers.{joined}
use Rattle.counting.proofs.Sums.{list_of-length, list_of-at}
use Rattle.survey.specs.Refusals.{streets_refusal, sites_refusal, chosen_refusal, kind_refusal, scores_refusal}
use Rattle.survey_file.specs.Encode.{town_mark, scores_mark, street_mark, end_mark, word, town_bytes, scores_bytes, list_bytes}
use Rattle.survey_file.specs.Decode.{word_at, mark_refusal, town_fields, scores_in, scores_fields, list_in, byte_field, street_fields, end_fields, form_in}
use Rattle.survey_file.proofs.Tries.{both, not-above, as-due, short-right, mark-right}
use Rattle.survey_file.proofs.Joined.{joined-even}
use Rattle.survey_file.proofs.Bytes.{word_back, words-at, word-behind}
use Rattle.survey_file.proofs.Rows.{SoundList, list_right}

-- the first mark tells the form
pub form-back : (new_form : Bool) (z : List ℕ) → form_in (word (town_mark new_form) ++ z) ≡ new_form
form-back false z = refl
form-back true z = refl

-- it is the mark of that form
form-mark : (new_form : Bool) (z : List ℕ) → word_at (word (town_mark new_form) ++ z) 0 ≡ town_mark (form_in (word (town_mark new_form) ++ z))
form-mark false z = refl
form-mark true z = refl

-- TN or TW
module _ (new_form : Bool) (n m k kind : ℕ) (z : List ℕ) where
  -- the record and what stands behind it
  abbrev record-town : List ℕ
  record-town = town_bytes new_form n m k kind ++ z

  -- it is accepted where the survey's sizes and the kind are
  pub town-right : streets_refusal n ≡ 0 → sites_refusal m ≡ 0 → chosen_refusal k m ≡ 0 → kind_refusal kind ≡ 0 →
      mark_refusal (town_mark (form_in record-town)) record-town or_else town_fields record-town ≡ 0
  town-right a b c d =
      let rest : List ℕ = record-town in
      both _ _ (mark-right (town_mark (form_in rest)) rest (omega arith) (form-mark new_form (word n ++ (m ∷ k ∷ kind ∷ []) ++ z)))
      (both _ _ (short-right rest 7 (omega arith)) (both _ _ (ap (λ (x : ℕ). streets_refusal x) (word_back n) ∙ a) (both _ _ b (both _ _ c d))))

-- SC
module _ (m : ℕ) (scores z : List ℕ) (fit : length scores ≡ m) where
  -- the record and what stands behind it
  abbrev record-scores : List ℕ
  record-scores = scores_bytes m scores ++ z

  -- each score comes back
  score-read : (i : ℕ) → i < m → at (scores_in m record-scores) i ≡ at scores i
  score-read i l =
      list_of-at m (λ j. word_at record-scores (2 + 2 * j)) i l
      ∙ word-behind 0x53 0x43 (joined m (λ j. word (at scores j)) ++ z) (2 * i)
      ∙ words-at m (λ j. at scores j) z i l

  -- the scores come back
  pub scores-back : scores_in m record-scores ≡ scores
  scores-back =
      let size : length (scores_in m record-scores) ≡ m = list_of-length m (λ j. word_at record-scores (2 + 2 * j)) in
      ext_get_or 0 (scores_in m record-scores) scores (size ∙ sym fit) (λ i l. score-read i (omega arith))

  -- it is accepted where the scores are
  pub scores-right : scores_refusal scores ≡ 0 → mark_refusal scores_mark record-scores or_else scores_fields m record-scores ≡ 0
  scores-right e =
      let table : List ℕ = joined m (λ j. word (at scores j)) in
      let size : length table ≡ m * 2 = joined-even m 2 (λ j. word (at scores j)) (λ j l. refl) in
      let room : length (table ++ z) ≡ length table + length z = length-append table z in
      both _ _ (mark-right scores_mark record-scores (omega arith) refl)
      (both _ _ (short-right record-scores (2 + 2 * m) (omega arith))
      (ap (λ (x : List ℕ). scores_refusal x) scores-back ∙ e))

-- ST
module _ (number : ℕ) (list z : List ℕ) where
  -- the record and what stands behind it
  abbrev record-list : List ℕ
  record-list = list_bytes number list ++ z

  -- the list comes back
  pub list_back : list_in record-list ≡ list
  list_back = take-append_seam list z

  -- behind the record stands what was behind it
  pub list-behind : drop (5 + at record-list 4) record-list ≡ z
  list-behind =
      let front : List ℕ = word street_mark ++ word number ++ (length list ∷ []) in
      drop-append-add front (list ++ z) (length list) ∙ drop-append_seam list z

  -- it is accepted where it holds a sound list of at most m sites
  pub list-record : (m : ℕ) → length list ≤ m → SoundList m list → mark_refusal street_mark record-list or_else street_fields m number record-list ≡ 0
  list-record m short sound =
      let room : length (list ++ z) ≡ length list + length z = length-append list z in
      both _ _ (mark-right street_mark record-list (omega arith) refl)
      (both _ _ (short-right record-list 5 (omega arith))
      (both _ _ (as-due 14 _ number (omega arith))
      (both _ _ (not-above 15 (length list) m short)
      (both _ _ (short-right record-list (5 + length list) (omega arith))
      (ap (λ (x : List ℕ). first_nonzero (length x) (byte_field m x)) list_back ∙ list_right m list sound)))))

-- EN is accepted where nothing follows
pub end-right : mark_refusal end_mark (word end_mark) or_else end_fields (word end_mark) ≡ 0
end-right = both _ _ (mark-right end_mark (word end_mark) (omega arith) refl) (not-above 16 2 2 (omega arith))
