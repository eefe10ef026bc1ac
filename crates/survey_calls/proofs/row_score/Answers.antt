use borrow.Author.Rules.{rules}
use mathlib.Core.Path.{ap, ◌∙◌}
use Prim.Native.Nat.{ℕ, ◌*◌}
use native.Mathlib.Nat.{one-mul}
use Rattle.std.specs.Prelude.{Result}
use Rattle.survey.specs.Rows.{score_of, counted_of}
use Rattle.refusals.specs.Inputs.{RowInput}
use Rattle.refusals.specs.Refusals.{row_score_refusal}
use Rattle.call_answers.specs.declared.Refusal.{Refusal}
use Rattle.call_answers.specs.Answers.{Told}
use Rattle.call_answers.proofs.Answers.{told-error, told-total, told_same}
use Rattle.survey_calls.specs.Calls.{RowScored}
use Rattle.survey_calls.proofs.row_score.Goals as goal

-- an answer by the counted score is one by the score, where the weight is 1
scored : (i : RowInput) (r : Result ℕ Refusal) → Told r (row_score_refusal i) (counted_of i.weight i.scores i.row i.site) → RowScored i r
scored i r told =
    record {
      answer = told;
      plain = λ one. told_same (λ z. ap (λ (w : ℕ). w * score_of i.scores i.row i.site) one ∙ one-mul _) told;
    }

pub returns-in_err-try_row_score : goal.returns-in_err-try_row_score
returns-in_err-try_row_score c = scored _ _ (told-error _ c.in_err-try_row_score.ensures _ (search rules))

pub returns : goal.returns
returns c = scored _ _ (told-total c.in_ok-try_row_score.ensures c.counted.ensures)
