-- What the reader's answer says: the papers' number, 0 where the file is accepted, and what its first record gives.
-- Assumes nothing.
use Rattle.std.specs.Prelude.{ℕ, ◌≡◌, List, Result, IfOk, eqb}
use Rattle.call_answers.specs.declared.Refusal.{Refusal}
use Rattle.call_answers.specs.Answers.{number, accepts}
use Rattle.survey_file.specs.declared.Sizes.{Sizes}
use Rattle.survey_file.specs.Sizes.{sizes_in}

-- an answer to a call whose first refusal is x: that number, an acceptance exactly where it is 0, and then the sizes, the kind and the form of the file
pub record ReadTold (r : Result Sizes Refusal) (x : ℕ) (file : List ℕ) : Type 0 where
  pub right-number : number r ≡ x
  pub right-case : accepts r ≡ eqb x 0
  pub right-sizes : IfOk r (λ sizes. sizes ≡ sizes_in file)
