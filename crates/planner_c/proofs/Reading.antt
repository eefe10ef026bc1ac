-- The reader's answer, taken apart: what the five lent numbers hold where it is a refusal, and where it is a survey.
-- Assumes nothing.
use mathlib.Core.Path.{◌≡◌, refl, sym, ap, ◌∙◌}
use mathlib.Core.Bool.{Bool, true, false}
use mathlib.Core.List.{List}
use Prim.Native.Nat.{ℕ, zero, suc}
use mir.Val.{bool_byte}
use Rattle.std.specs.Prelude.{Result, Ok, Err}
use Rattle.counting.proofs.Equations.{along}
use Rattle.call_answers.specs.declared.Refusal.{Refusal}
use Rattle.call_answers.specs.Answers.{number_of}
use Rattle.call_answers.proofs.Refused.{numbered}
use Rattle.survey_file.specs.declared.Sizes as code
use Rattle.survey_file.specs.Sizes.{sizes_in}
use Rattle.refusals.specs.Inputs.{ReadInput}
use Rattle.refusals.specs.Refusals.{read_refusal}
use Rattle.file_calls.specs.Calls.{FileRead}
use Rattle.planner_c.specs.Packed.{packed, form_number, Sizes, sizes_of, sizes_after, FileReadInto}

-- what the five numbers hold after a refusal, and after none
kept-sizes : (x : ℕ) (file : List ℕ) (old : Sizes) → (x ≡ 0 → ⊥) → old ≡ sizes_after x file old
kept-sizes zero file old h = absurd (h refl)
kept-sizes (suc x) file old h = refl

new-sizes : (x : ℕ) (file : List ℕ) (old : Sizes) (s : code.Sizes) → x ≡ 0 → s ≡ sizes_in file
    → sizes_of s.n s.m s.k s.kind (form_number s.new_form) ≡ sizes_after x file old
new-sizes x file old s z same = rw (z, same) refl

-- a form as a number
as_number : (new_form : Bool) → bool_byte new_form ≡ form_number new_form
as_number true = refl
as_number false = refl

module _ {i : ReadInput} {scores weights rows : List ℕ} {answer : Result code.Sizes Refusal} (told : FileRead i scores weights rows answer) (old : Sizes) where
  -- a refusal: the lent numbers hold what they held
  pub refused-into : {e : Refusal} {r : ℕ} → answer ≡ Err e → r ≡ packed (number_of e) 0 → FileReadInto i scores weights rows old old r
  refused-into {e} is p =
      let here : FileRead i scores weights rows (Err e) = along (λ (x : Result code.Sizes Refusal). FileRead i scores weights rows x) (sym is) told in
      record {
        read = record { answer = Err e; is = p; holds = here };
        sizes = kept-sizes (read_refusal i) i.file old (λ z. numbered e (here.answer.right-number ∙ z));
      }

  -- a survey: they hold its sizes, kind and form
  pub survey-into : {s : code.Sizes} → answer ≡ Ok s → FileReadInto i scores weights rows old (sizes_of s.n s.m s.k s.kind (bool_byte s.new_form)) 0
  survey-into {s} is =
      let here : FileRead i scores weights rows (Ok s) = along (λ (x : Result code.Sizes Refusal). FileRead i scores weights rows x) (sym is) told in
      record {
        read = record { answer = Ok s; is = refl; holds = here };
        sizes = ap (λ (form : ℕ). sizes_of s.n s.m s.k s.kind form) (as_number s.new_form)
            ∙ new-sizes (read_refusal i) i.file old s (sym here.answer.right-number) here.answer.right-sizes;
      }
