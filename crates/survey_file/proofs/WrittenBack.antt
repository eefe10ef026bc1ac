-- An accepted file is written back: what is read from it has that file, byte by byte, and is an accepted survey in a form that keeps its weights.
-- Assumes nothing.
use mathlib.Core.Path.{◌≡◌, refl, sym, ap, ◌∙◌}
use mathlib.Core.Bool.{Bool, true, false}
use mathlib.Core.List.{List, ◌++◌, append_assoc}
use Prim.Native.Nat.{ℕ, suc, ◌+◌, ◌-◌, ◌*◌, ◌<◌}
use native.Mathlib.Omega.{arith}
use lib.ListN.{length, drop, replicate, length-append, length-replicate}
use lib.Seq.{drop-drop}
use Rattle.counting.specs.Buffers.{joined}
use Rattle.counting.proofs.Refusals.{first-zeros}
use Rattle.counting.proofs.Sums.{list_of-length}
use Rattle.survey.specs.Rows.{ranked_part, row_of, list_of_street}
use Rattle.survey.specs.Refusals.{kind_refusal, row_refusal, street_refusal, rows_refusal, survey_refusal}
use Rattle.survey.specs.Accepted.{Accepted}
use Rattle.survey.proofs.Sound.{accepted}
use Rattle.survey_file.specs.Filed.{form_refusal}
use Rattle.survey_file.specs.Encode.{end_mark, word, town_bytes, scores_bytes, weights_bytes, list_bytes, street_bytes, streets_bytes, encode}
use Rattle.survey_file.specs.Decode.{word_at, scores_in, weights_in, weights_size, list_in, past, form_in, streets_in, sites_in, chosen_in, kind_in}
use Rattle.survey_file.specs.Decode.{scores_part, weights_part, streets_part, file_refusal, row_from, rows_in, town_in, filed_in}
use Rattle.survey_file.proofs.Tries.{both, as-due}
use Rattle.survey_file.proofs.Joined.{joined_same, joined-even, joined-row}
use Rattle.survey_file.proofs.Bytes.{Bytes}
use Rattle.survey_file.proofs.Weights.{ones-kept, weights-fit, weights-sound, weights-front}
use Rattle.survey_file.proofs.Rows.{list-sites, ranked-list, row-right}
use Rattle.survey_file.proofs.Accepting.{StreetRead, FileSays, file-says}
use Rattle.survey_file.proofs.Fronts.{drop-bytes, past_bytes, town-front, scores-front, list-size, end-front, streets-front}

-- a street's row has m bytes
row-long : (m number : ℕ) (rest : List ℕ) → StreetRead m number rest → length (row_from m rest) ≡ m
row-long m number rest ok =
    let list : List ℕ = list_in rest in
    let zeros : length {A = ℕ} (replicate (m - length list) 0) ≡ m - length list = length-replicate (m - length list) 0 in
    omega (arith, length-append list (replicate (m - length list) 0), list-size m number rest ok, ok.short)

-- the weights that are read in a form are kept in it
own-kept : (new_form : Bool) (n : ℕ) (rest : List ℕ) → form_refusal new_form (weights_in new_form n rest) ≡ 0
own-kept false n rest = ones-kept false n
own-kept true n rest = refl

module _ (file : List ℕ) (e : file_refusal file ≡ 0) where
  -- the number of streets
  abbrev n : ℕ
  n = streets_in file

  -- the number of sites
  abbrev m : ℕ
  m = sites_in file

  -- the street records and the end
  abbrev streets : List ℕ
  streets = streets_part file

  -- the scores
  abbrev scores : List ℕ
  scores = scores_in m (scores_part file)

  -- the weights
  abbrev weights : List ℕ
  weights = weights_in (form_in file) n (weights_part file)

  -- what the records show
  ok : FileSays file
  ok = file-says file e

  -- the row of each street is the one that its record gives
  pub row_read : (i : ℕ) → i < streets_in file → row_of (town_in file) i ≡ row_from (sites_in file) (past (streets_part file) i)
  row_read = joined-row n m (λ i. row_from m (past streets i)) (λ i l. row-long m (suc i) (past streets i) (ok.street i l))

  -- the list of each street is the one of its record
  list_read : (i : ℕ) → i < n → list_of_street (town_in file) i ≡ list_in (past streets i)
  list_read i l =
      let list : List ℕ = list_in (past streets i) in
      ap (λ (x : List ℕ). ranked_part x) (row_read i l) ∙ ranked-list list (m - length list) (list-sites m list (ok.street i l).sound)

  -- the street records and the end, written again
  pub streets-written : Bytes file → streets ≡ streets_bytes n m (rows_in file)
  streets-written bytes =
      let lists : ℕ → List ℕ = λ j. list_bytes (suc j) (list_in (past streets j)) in
      let inner : Bytes streets = drop-bytes file (9 + 2 * m + weights_size (form_in file) n) bytes in
      streets-front n m streets inner ok.street n (omega arith)
      ∙ ap (λ (x : List ℕ). joined n lists ++ x) (end-front (past streets n) (past_bytes streets n inner) ok.end)
      ∙ ap (λ (x : List ℕ). x ++ word end_mark)
      (joined_same n lists (street_bytes m (rows_in file)) (λ i l. ap (λ (x : List ℕ). list_bytes (suc i) x) (sym (list_read i l))))

  -- an accepted file of bytes is the file of what is read from it
  pub encode-decode : Bytes file → encode (filed_in file) ≡ file
  unfolding encode
  encode-decode bytes =
      let town : List ℕ = town_bytes (form_in file) n m (chosen_in file) (kind_in file) in
      let table : List ℕ = scores_bytes m scores in
      let each : List ℕ = weights_bytes (form_in file) weights in
      let lists : List ℕ = streets_bytes n m (rows_in file) in
      let start : 7 + (2 + 2 * m) ≡ 9 + 2 * m = omega arith in
      let behind : drop (weights_size (form_in file) n) (weights_part file) ≡ lists =
      drop-drop (weights_size (form_in file) n) (9 + 2 * m) file ∙ streets-written bytes in
      let middle : drop (2 + 2 * m) (scores_part file) ≡ each ++ lists =
      drop-drop (2 + 2 * m) 7 file ∙ ap (λ (x : ℕ). drop x file) start
      ∙ weights-front n (weights_part file) (form_in file) (drop-bytes file (9 + 2 * m) bytes) ok.weights ∙ ap (λ (x : List ℕ). each ++ x) behind in
      append_assoc (town ++ table) each lists ∙ append_assoc town table (each ++ lists)
      ∙ ap (λ (x : List ℕ). town ++ (table ++ x)) (sym middle)
      ∙ ap (λ (x : List ℕ). town ++ x) (sym (scores-front m (scores_part file) (drop-bytes file 7 bytes) ok.scores))
      ∙ sym (town-front file bytes ok.town)

  -- the rows that are read are accepted
  rows-accepted : rows_refusal n m (rows_in file) ≡ 0
  rows-accepted =
      first-zeros n (street_refusal m (rows_in file)) (λ i l.
      let list : List ℕ = list_in (past streets i) in
      ap (λ (x : List ℕ). row_refusal m x) (row_read i l) ∙ row-right m (m - length list) list (ok.street i l).sound)

  -- what is read is an accepted survey
  pub decode-accepted : survey_refusal (town_in file) (chosen_in file) (kind_refusal (kind_in file)) ≡ 0
  decode-accepted =
      let table : length scores ≡ m = list_of-length m (λ i. word_at (scores_part file) (2 + 2 * i)) in
      let sizes : length (rows_in file) ≡ n * m =
      joined-even n m (λ i. row_from m (past streets i)) (λ i l. row-long m (suc i) (past streets i) (ok.street i l)) in
      both _ _ ok.town.streets
      (both _ _ ok.town.sites
      (both _ _ ok.town.chosen
      (both _ _ ok.town.kind
      (both _ _ (as-due 6 (length scores) m table)
      (both _ _ (as-due 6 (length weights) n (weights-fit n (weights_part file) (form_in file) ok.weights))
      (both _ _ (as-due 6 (length (rows_in file)) (n * m) sizes)
      (both _ _ ok.scores.scores (both _ _ (weights-sound n (weights_part file) (form_in file) ok.weights) rows-accepted))))))))

  -- so what holds of an accepted survey holds of its town
  pub town-accepted : Accepted (town_in file)
  town-accepted = accepted (town_in file) (chosen_in file) (kind_refusal (kind_in file)) decode-accepted

  -- the form that it has keeps its weights
  pub decode-kept : form_refusal (form_in file) (town_in file).weights ≡ 0
  decode-kept = own-kept (form_in file) n (weights_part file)
