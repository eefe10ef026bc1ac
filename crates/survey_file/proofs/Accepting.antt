-- What the records of a file show where none of them is refused.
-- Assumes nothing.
use mathlib.Core.Path.{◌≡◌}
use mathlib.Core.List.{List}
use Prim.Native.Nat.{ℕ, suc, ◌+◌, ◌*◌, ◌≤◌, ◌<◌}
use lib.Dec.{ltb, lit<}
use lib.ListN.{length}
use borrow.Author.Tests.{ltb-false}
use Rattle.counting.specs.Words.{◌or_else◌, first_nonzero}
use Rattle.counting.specs.Lists.{at}
use Rattle.counting.proofs.Refusals.{or-zero, when-zero, exact, first-none}
use Rattle.survey.specs.Refusals.{streets_refusal, sites_refusal, chosen_refusal, kind_refusal, scores_refusal}
use Rattle.survey_file.specs.Encode.{town_mark, scores_mark, street_mark, end_mark}
use Rattle.survey_file.specs.Decode.{word_at, mark_refusal, town_fields, scores_in, scores_fields, weights_record, list_in, street_fields, end_fields, past}
use Rattle.survey_file.specs.Decode.{street_record, streets_and_end, form_in, streets_in, sites_in, chosen_in, kind_in}
use Rattle.survey_file.specs.Decode.{scores_part, weights_part, streets_part, file_refusal}
use Rattle.survey_file.proofs.Tries.{short-says, mark-says}
use Rattle.survey_file.proofs.Rows.{SoundList, list-says}

-- of the record TN or TW
pub record TownRead (file : List ℕ) : Type 0 where
  pub marked : word_at file 0 ≡ town_mark (form_in file)
  pub whole : 7 ≤ length file
  pub streets : streets_refusal (streets_in file) ≡ 0
  pub sites : sites_refusal (sites_in file) ≡ 0
  pub chosen : chosen_refusal (chosen_in file) (sites_in file) ≡ 0
  pub kind : kind_refusal (kind_in file) ≡ 0

-- of the record SC
pub record ScoresRead (m : ℕ) (rest : List ℕ) : Type 0 where
  pub marked : word_at rest 0 ≡ scores_mark
  pub whole : 2 + 2 * m ≤ length rest
  pub scores : scores_refusal (scores_in m rest) ≡ 0

-- of a record ST
pub record StreetRead (m number : ℕ) (rest : List ℕ) : Type 0 where
  pub marked : word_at rest 0 ≡ street_mark
  pub numbered : word_at rest 2 ≡ number
  pub short : at rest 4 ≤ m
  pub whole : 5 + at rest 4 ≤ length rest
  pub sound : SoundList m (list_in rest)

-- of the record EN
pub record EndRead (rest : List ℕ) : Type 0 where
  pub marked : word_at rest 0 ≡ end_mark
  pub whole : 2 ≤ length rest
  pub last : length rest ≤ 2

-- of the file
pub record FileSays (file : List ℕ) : Type 0 where
  pub town : TownRead file
  pub scores : ScoresRead (sites_in file) (scores_part file)
  pub weights : weights_record (form_in file) (streets_in file) (weights_part file) ≡ 0
  pub street : (i : ℕ) → i < streets_in file → StreetRead (sites_in file) (suc i) (past (streets_part file) i)
  pub end : EndRead (past (streets_part file) (streets_in file))

-- the tries of TN or TW refuse nothing
pub town-says : (file : List ℕ) → mark_refusal (town_mark (form_in file)) file or_else town_fields file ≡ 0 → TownRead file
town-says file e =
    let (a, e₁) = or-zero (mark_refusal (town_mark (form_in file)) file) (town_fields file) e in
    let (b, e₂) = or-zero _ _ e₁ in
    let (c, e₃) = or-zero _ _ e₂ in
    let (d, e₄) = or-zero _ _ e₃ in
    let (f, e₅) = or-zero _ _ e₄ in
    record { marked = (mark-says (town_mark (form_in file)) file a).1; whole = short-says file 7 b; streets = c; sites = d; chosen = f; kind = e₅ }

-- those of SC
pub scores-says : (m : ℕ) (rest : List ℕ) → mark_refusal scores_mark rest or_else scores_fields m rest ≡ 0 → ScoresRead m rest
scores-says m rest e =
    let (a, e₁) = or-zero (mark_refusal scores_mark rest) (scores_fields m rest) e in
    let (b, e₂) = or-zero _ _ e₁ in
    record { marked = (mark-says scores_mark rest a).1; whole = short-says rest (2 + 2 * m) b; scores = e₂ }

-- those of a record ST
pub street-says : (m number : ℕ) (rest : List ℕ) → mark_refusal street_mark rest or_else street_fields m number rest ≡ 0 → StreetRead m number rest
street-says m number rest e =
    let (a, e₁) = or-zero (mark_refusal street_mark rest) (street_fields m number rest) e in
    let (b, e₂) = or-zero _ _ e₁ in
    let (c, e₃) = or-zero _ _ e₂ in
    let (d, e₄) = or-zero _ _ e₃ in
    let (f, e₅) = or-zero _ _ e₄ in
    record {
      marked = (mark-says street_mark rest a).1;
      numbered = exact 14 (word_at rest 2) number (lit< tt) c;
      short = ltb-false m (at rest 4) (when-zero 15 (ltb m (at rest 4)) (lit< tt) d);
      whole = short-says rest (5 + at rest 4) f;
      sound = list-says m (list_in rest) e₅;
    }

-- those of EN
pub end-says : (rest : List ℕ) → mark_refusal end_mark rest or_else end_fields rest ≡ 0 → EndRead rest
end-says rest e =
    let (a, e₁) = or-zero (mark_refusal end_mark rest) (end_fields rest) e in
    let (room, due) = mark-says end_mark rest a in
    record { marked = due; whole = room; last = ltb-false 2 (length rest) (when-zero 16 (ltb 2 (length rest)) (lit< tt) e₁) }

-- those of the whole file
pub file-says : (file : List ℕ) → file_refusal file ≡ 0 → FileSays file
unfolding file_refusal
file-says file e =
    let n : ℕ = streets_in file in
    let m : ℕ = sites_in file in
    let streets : List ℕ = streets_part file in
    let scores : ℕ = mark_refusal scores_mark (scores_part file) or_else scores_fields m (scores_part file) in
    let weights : ℕ = weights_record (form_in file) n (weights_part file) in
    let (a, e₁) = or-zero (mark_refusal (town_mark (form_in file)) file or_else town_fields file) (scores or_else weights or_else streets_and_end n m streets) e in
    let (b, e₂) = or-zero scores (weights or_else streets_and_end n m streets) e₁ in
    let (w, e₃) = or-zero weights (streets_and_end n m streets) e₂ in
    let (c, e₄) = or-zero (first_nonzero n (street_record m streets)) (mark_refusal end_mark (past streets n) or_else end_fields (past streets n)) e₃ in
    record {
      town = town-says file a;
      scores = scores-says m (scores_part file) b;
      weights = w;
      street = λ i l. street-says m (suc i) (past streets i) (first-none n (street_record m streets) c i l);
      end = end-says (past streets n) e₄;
    }
