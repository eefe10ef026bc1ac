-- What the calls on a survey itself promise, each in one record, on every input.
-- Assumes nothing.
use Rattle.std.specs.Prelude.{ℕ, ◌≡◌, ⊤, List, Result}
use Rattle.std.specs.Borrow.{Bor}
use Rattle.survey.specs.Rows.{ranked_part, score_of, counted_of}
use Rattle.refusals.specs.Inputs.{SurveyInput, RowInput}
use Rattle.refusals.specs.Refusals.{check_refusal, row_score_refusal}
use Rattle.call_answers.specs.declared.Refusal.{Refusal}
use Rattle.call_answers.specs.Answers.{Answered, Told}

-- checking a survey
pub record SurveyChecked (i : SurveyInput) (r : Result ⊤ Refusal) : Type 0 where
  -- the first number that applies, and an acceptance where none does
  pub answer : Answered r (check_refusal i)

-- the ranked part of a row, as a stretch of the caller's own bytes
pub record RankedPart (row part : Bor (List ℕ)) : Type 0 where
  -- all that stands before the first zero
  pub bytes : part.now ≡ ranked_part row.now
  -- and it stands where the row begins: no copy, and no other stretch of the same bytes
  pub place : part.ref_ptr ≡ row.ref_ptr

-- counted score of one row for one site
pub record RowScored (i : RowInput) (r : Result ℕ Refusal) : Type 0 where
  -- the first number that applies, or the score times the weight
  pub answer : Told r (row_score_refusal i) (counted_of i.weight i.scores i.row i.site)
  -- with the weight 1 it is the score
  pub plain : i.weight ≡ 1 → Told r (row_score_refusal i) (score_of i.scores i.row i.site)
