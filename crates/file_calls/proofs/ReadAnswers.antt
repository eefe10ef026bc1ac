-- The reader's answer is fixed by what is told of it.
-- Assumes nothing.
use mathlib.Core.Path.{◌≡◌, refl, sym, ap, ◌∙◌}
use mathlib.Core.Bool.{false≢true}
use mathlib.Core.List.{List}
use Prim.Native.Nat.{ℕ}
use Rattle.std.specs.Prelude.{Result, Ok, Err}
use Rattle.call_answers.specs.declared.Refusal.{Refusal}
use Rattle.call_answers.proofs.Refused.{number-fixes}
use Rattle.survey_file.specs.declared.Sizes.{Sizes}
use Rattle.file_calls.specs.Answers.{ReadTold}

-- two answers of which the same is told are equal
module _ {x : ℕ} {file : List ℕ} where
  fixed : (r q : Result Sizes Refusal) → ReadTold r x file → ReadTold q x file → r ≡ q
  fixed (Ok s) (Ok t) a b = ap (λ (z : Sizes). Ok z) (a.right-sizes ∙ sym b.right-sizes)
  fixed (Ok s) (Err e) a b = absurd (false≢true (b.right-case ∙ sym a.right-case))
  fixed (Err d) (Ok t) a b = absurd (false≢true (a.right-case ∙ sym b.right-case))
  fixed (Err d) (Err e) a b = ap (λ (z : Refusal). Err z) (number-fixes d e (a.right-number ∙ sym b.right-number))

  pub read-fixed : {r q : Result Sizes Refusal} → ReadTold r x file → ReadTold q x file → r ≡ q
  read-fixed a b = fixed _ _ a b
