-- What the reader's answers say, case by case: the record that is due, its mark and its fields.
-- Assumes nothing.
use Rattle.std.specs.Prelude.{ℕ, ◌≡◌, Bool, List, Result, IfOk}
use Rattle.counting.specs.Words.{◌or_else◌}
use Rattle.counting.specs.Lists.{at}
use Rattle.survey_file.specs.Encode.{town_mark, scores_mark, weights_mark, street_mark, end_mark}
use Rattle.survey_file.specs.Decode.{mark_refusal, streets_in, sites_in, chosen_in, kind_in, town_fields, scores_fields, weights_fields, street_fields, end_fields, form_in}
use Rattle.call_answers.specs.declared.Refusal.{Refusal}
use Rattle.call_answers.specs.Answers.{number}
use Rattle.file_reader.specs.declared.records.Due.{Due}
use Rattle.file_reader.specs.declared.records.Due.TheVariants as due
use Rattle.file_reader.specs.declared.records.Record.{Record}
use Rattle.file_reader.specs.declared.records.Record.TheVariants as got

-- the mark of a record that is due; where a town is, the bytes decide which of its two
unfoldable pub mark_of : Due → List ℕ → ℕ
mark_of due.Town rest = town_mark (form_in rest)
mark_of (due.Scores m) rest = scores_mark
mark_of (due.Weights n) rest = weights_mark
mark_of (due.Street m number) rest = street_mark
mark_of due.End rest = end_mark

-- what its fields are refused for
abbrev pub fields_refusal : Due → List ℕ → ℕ
fields_refusal due.Town rest = town_fields rest
fields_refusal (due.Scores m) rest = scores_fields m rest
fields_refusal (due.Weights n) rest = weights_fields n rest
fields_refusal (due.Street m number) rest = street_fields m number rest
fields_refusal due.End rest = end_fields rest

-- the fields of TN or TW, with the form that this says
abbrev pub town_answer : Bool → List ℕ → Record
town_answer new_form rest =
    got.Town (record { n = streets_in rest; m = sites_in rest; k = chosen_in rest; kind = kind_in rest; new_form = new_form })

-- the length of the list in ST
abbrev pub street_answer : List ℕ → Record
street_answer rest = got.Street (at rest 4)

-- the answer where nothing is refused
abbrev pub fields_of : Due → List ℕ → Record
fields_of due.Town rest = town_answer (form_in rest) rest
fields_of (due.Scores m) rest = got.Scores
fields_of (due.Weights n) rest = got.Weights
fields_of (due.Street m number) rest = street_answer rest
fields_of due.End rest = got.End

-- the first refusal of a record that is due: its mark, then its fields
abbrev pub record_refusal : Due → List ℕ → ℕ
record_refusal due rest = mark_refusal (mark_of due rest) rest or_else fields_refusal due rest

-- an answer whose first refusal is x: that number, and the fields where it is 0
pub record Reads (r : Result Record Refusal) (x : ℕ) (fields : Record) : Type 0 where
  pub right-number : number r ≡ x
  pub right-fields : IfOk r (λ got. got ≡ fields)
