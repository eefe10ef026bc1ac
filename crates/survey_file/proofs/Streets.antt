-- The street records as they are written, read again one after the other: each is accepted, its row comes back, and the end is left.
-- Assumes nothing.
use mathlib.Core.Path.{◌≡◌, refl, ap, ◌∙◌}
use mathlib.Core.List.{List, ◌++◌, append_assoc}
use Prim.Native.Nat.{ℕ, zero, suc, ◌+◌, ◌≤◌, ◌<◌}
use lib.ListN.{length, drop}
use Rattle.counting.specs.Words.{◌or_else◌}
use Rattle.counting.specs.Lists.{at}
use Rattle.counting.specs.Buffers.{joined}
use Rattle.counting.proofs.Refusals.{first-zeros}
use Rattle.survey_file.specs.Encode.{street_mark, end_mark, word, list_bytes}
use Rattle.survey_file.specs.Decode.{mark_refusal, street_fields, end_fields, past, street_record, streets_and_end, list_in}
use Rattle.survey_file.proofs.Tries.{both}
use Rattle.survey_file.proofs.Joined.{joined-split}
use Rattle.survey_file.proofs.Rows.{SoundList}
use Rattle.survey_file.proofs.Records.{list_back, list-behind, list-record, end-right}

module _ (list : ℕ → List ℕ) where
  -- the record of the street i, whose list is given
  abbrev bytes : ℕ → List ℕ
  bytes i = list_bytes (suc i) (list i)

  -- past i records stands what was written behind them
  pub past-joined : (i : ℕ) (z : List ℕ) → past (joined i bytes ++ z) i ≡ z
  unfolding past joined
  past-joined zero z = refl
  past-joined (suc i) z =
      let here : past (joined i bytes ++ bytes i ++ z) i ≡ bytes i ++ z =
      ap (λ (x : List ℕ). past x i) (append_assoc (joined i bytes) (bytes i) z) ∙ past-joined i (bytes i ++ z) in
      ap (λ (x : List ℕ). drop (5 + at x 4) x) here ∙ list-behind (suc i) (list i) z

  module _ (n : ℕ) (z : List ℕ) where
    -- n records and what stands behind them
    abbrev streets : List ℕ
    streets = joined n bytes ++ z

    -- past i of n records the record i stands in front
    past-at : (i : ℕ) → i < n → (y : List ℕ) × (past streets i ≡ bytes i ++ y)
    past-at i l = let (y, q) = joined-split n bytes z i l in (y, ap (λ (x : List ℕ). past x i) q ∙ past-joined i (bytes i ++ y))

    -- the list of each street comes back
    pub list_at : (i : ℕ) → i < n → list_in (past streets i) ≡ list i
    list_at i l = let (y, q) = past-at i l in ap (λ (x : List ℕ). list_in x) q ∙ list_back (suc i) (list i) y

    -- each record is accepted
    record-at : (m : ℕ) → ((i : ℕ) → i < n → length (list i) ≤ m) → ((i : ℕ) → i < n → SoundList m (list i)) → (i : ℕ) → i < n → street_record m streets i ≡ 0
    record-at m short sound i l =
        let (y, q) = past-at i l in
        ap (λ (x : List ℕ). mark_refusal street_mark x or_else street_fields m (suc i) x) q ∙ list-record (suc i) (list i) y m (short i l) (sound i l)

  -- n street records and the end behind them
  pub streets-right : (n m : ℕ) → ((i : ℕ) → i < n → length (list i) ≤ m) → ((i : ℕ) → i < n → SoundList m (list i))
      → streets_and_end n m (joined n bytes ++ word end_mark) ≡ 0
  streets-right n m short sound =
      let all : List ℕ = joined n bytes ++ word end_mark in
      both _ _ (first-zeros n (street_record m all) (record-at n (word end_mark) m short sound))
      (ap (λ (x : List ℕ). mark_refusal end_mark x or_else end_fields x) (past-joined n (word end_mark)) ∙ end-right)
