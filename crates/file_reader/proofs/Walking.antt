-- Laws of walking through the street records of a file: one street more, and the end.
-- Assumes nothing.
use mathlib.Core.Path.{◌≡◌, refl, sym, ap, ◌∙◌}
use mathlib.Core.List.{List}
use Prim.Native.Nat.{ℕ, suc, ◌+◌, ◌≤◌, ◌<◌}
use native.Mathlib.Nat.{le_antisymm}
use native.Mathlib.Numerals.{add-one}
use native.Mathlib.Omega.{arith}
use lib.ListN.{length, drop, length-drop}
use lib.Seq.{drop-drop}
use Rattle.counting.specs.Words.{◌or_else◌, first_nonzero}
use Rattle.counting.specs.Lists.{at}
use Rattle.counting.proofs.Refusals.{or-stop, or-pass, or-zero, first_found, first_next}
use Rattle.call_answers.specs.declared.Refusal.{Refusal}
use Rattle.call_answers.specs.Answers.{number_of}
use Rattle.call_answers.proofs.Refused.{numbered}
use Rattle.survey_file.specs.Encode.{street_mark, end_mark}
use Rattle.survey_file.specs.Decode.{mark_refusal, street_fields, end_fields, past, street_record, streets_and_end}
use Rattle.file_reader.specs.declared.records.Due.TheVariants as due
use Rattle.file_reader.specs.declared.records.Record.TheVariants as got
use Rattle.file_reader.specs.Answers.{mark_of, street_answer, record_refusal}
use Rattle.file_reader.proofs.Reading.{street-long, street-part}

-- what a street that was read tells: its list has the length, and the next record begins within the file
pub street-taken : (file : List ℕ) (m number here size : ℕ) → 0 ≡ record_refusal (due.Street m number) (drop here file)
    → got.Street size ≡ street_answer (drop here file) → (size ≡ at (drop here file) 4) × (here + 5 + size ≤ length file)
unfolding mark_of
street-taken file m number here size quiet e =
    let rest : List ℕ = drop here file in
    let part : size ≡ at rest 4 = street-part rest size e in
    let long = street-long m number rest (sym (or-zero (mark_refusal street_mark rest) (street_fields m number rest) (sym quiet)).1) in
    (part, omega (arith, part, length-drop here file))

-- no street record is read yet
pub past-none : (streets : List ℕ) → streets ≡ past streets 0
unfolding past
past-none streets = refl

-- ---- the street records of a part of the file, of which i are read where the rest of the file begins at the index `here`
module _ (file streets : List ℕ) (m here i : ℕ) (rest-is : drop here file ≡ past streets i) where
  -- the record at the index is the street's
  street-is : (r : ℕ) → r ≡ record_refusal (due.Street m (i + 1)) (drop here file) → r ≡ street_record m streets i
  unfolding mark_of
  street-is r e =
      let next : i + 1 ≡ suc i = add-one i in
      e ∙ ap (λ (number : ℕ). mark_refusal street_mark (drop here file) or_else street_fields m number (drop here file)) next
      ∙ ap (λ (rest : List ℕ). mark_refusal street_mark rest or_else street_fields m (suc i) rest) rest-is

  -- past the record the rest is that of one street more
  pub street-past : (size : ℕ) → size ≡ at (drop here file) 4 → drop (here + (5 + size)) file ≡ past streets (i + 1)
  unfolding past
  street-past size e =
      let next : i + 1 ≡ suc i = add-one i in
      let sum : here + (5 + size) ≡ here + (5 + at (drop here file) 4) = omega arith in
      ap (λ (k : ℕ). drop k file) sum
      ∙ sym (drop-drop (5 + at (drop here file) 4) here file)
      ∙ ap (λ (rest : List ℕ). drop (5 + at rest 4) rest) rest-is
      ∙ ap (past streets) (sym next)

  -- a record that is refused ends the walk
  pub street-stops : (n : ℕ) (e : Refusal) → i < n → first_nonzero i (street_record m streets) ≡ 0
      → number_of e ≡ record_refusal (due.Street m (i + 1)) (drop here file) → number_of e ≡ streets_and_end n m streets
  street-stops n e l quiet is =
      or-stop (number_of e) (first_nonzero n (street_record m streets)) (mark_refusal end_mark (past streets n) or_else end_fields (past streets n))
      (first_found i n (street_record m streets) (number_of e) l quiet (street-is (number_of e) is) (numbered e)) (numbered e)

  -- one that is not leads on
  pub street-passes : first_nonzero i (street_record m streets) ≡ 0 → 0 ≡ record_refusal (due.Street m (i + 1)) (drop here file)
      → first_nonzero (i + 1) (street_record m streets) ≡ 0
  street-passes quiet z = first_next i (street_record m streets) 0 quiet (street-is 0 z) refl

  -- behind the last street stands the end
  pub end_is : (n r : ℕ) → n ≤ i → i ≤ n → first_nonzero i (street_record m streets) ≡ 0 → r ≡ record_refusal due.End (drop here file) → r ≡ streets_and_end n m streets
  unfolding mark_of
  end_is n r a b quiet e =
      let last : i ≡ n = le_antisymm b a in
      let rest_end : drop here file ≡ past streets n = rest-is ∙ ap (past streets) last in
      let all : first_nonzero n (street_record m streets) ≡ 0 = rw last at quiet in
      or-pass r 0 (first_nonzero n (street_record m streets)) (mark_refusal end_mark (past streets n) or_else end_fields (past streets n)) (sym all) refl
      (e ∙ ap (λ (rest : List ℕ). mark_refusal end_mark rest or_else end_fields rest) rest_end)
