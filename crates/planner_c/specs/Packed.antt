-- How a call's promise crosses to another language: its answer as one number, and the reader's sizes and form through numbers that the caller lends.
-- Assumes nothing.
use Rattle.std.specs.Prelude.{ℕ, zero, suc, ◌*◌, ◌≡◌, ⊤, Bool, not, cond, List, Result, eqb}
use Rattle.survey_file.specs.Decode.{form_in, streets_in, sites_in, chosen_in, kind_in}
use Rattle.refusals.specs.Inputs.{ReadInput}
use Rattle.refusals.specs.Refusals.{read_refusal}
use Rattle.call_answers.specs.declared.Refusal.{Refusal}
use Rattle.call_answers.specs.Answers.{number, total}
use Rattle.file_calls.specs.Calls.{FileRead}

-- the library's version: the year and the number of the last request that it meets
abbrev pub version : ℕ
version = 202606

-- an answer as one 64-bit number: the total where nothing is refused, else the refusal's number in the upper half and 0 in the lower
abbrev pub packed : ℕ → ℕ → ℕ
packed zero total = total
packed (suc x) total = suc x * 4294967296

-- r packs an answer, by its number and total, of which P holds
pub record Packs {A : Type 0} (number total : A → ℕ) (P : A → Type 0) (r : ℕ) : Type 0 where
  pub answer : A
  pub is : r ≡ packed (number answer) (total answer)
  pub holds : P answer

-- a check's answer, and one with a total
abbrev pub PacksChecked : (Result ⊤ Refusal → Type 0) → ℕ → Type 0
PacksChecked = Packs number (λ r. 0)

abbrev pub PacksAnswer : (Result ℕ Refusal → Type 0) → ℕ → Type 0
PacksAnswer = Packs number total

-- the form of a file as a number: 0 is the old one, and any other the new one; the reader gives 0 or 1
abbrev pub form_of : ℕ → Bool
form_of form = not (eqb form 0)

abbrev pub form_number : Bool → ℕ
form_number new_form = cond new_form 1 0

-- ---- the reader
-- the five numbers that it is lent for a file's sizes, kind and form
pub record Sizes : Type 0 where
  pub n : ℕ
  pub m : ℕ
  pub k : ℕ
  pub kind : ℕ
  pub form : ℕ

abbrev pub sizes_of : ℕ → ℕ → ℕ → ℕ → ℕ → Sizes
sizes_of n m k kind form = record { n = n; m = m; k = k; kind = kind; form = form }

-- what they hold after a refusal x: the file's sizes, kind and form where it is 0, else what they held
abbrev pub sizes_after : ℕ → List ℕ → Sizes → Sizes
sizes_after zero file old = sizes_of (streets_in file) (sites_in file) (chosen_in file) (kind_in file) (form_number (form_in file))
sizes_after (suc x) file old = old

-- the reader's promise with these
pub record FileReadInto (i : ReadInput) (scores weights rows : List ℕ) (before after : Sizes) (r : ℕ) : Type 0 where
  -- the call's own promise; the total is 0
  pub read : Packs number (λ r. 0) (FileRead i scores weights rows) r
  -- the sizes, the kind and the form
  pub sizes : after ≡ sizes_after (read_refusal i) i.file before
