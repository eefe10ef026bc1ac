-- What the answer of a call says, case by case: the refusal's number, 0 where the call is accepted, and the total, 0 where it is refused.
-- Assumes nothing.
use Rattle.std.specs.Prelude.{ℕ, ◌≡◌, Bool, true, false, Result, Ok, Err, eqb}
use Rattle.counting.specs.Words.{◌when◌}
use Rattle.call_answers.specs.declared.Refusal.{Refusal}
use Rattle.call_answers.specs.declared.Refusal.TheVariants as refusal

-- the number of each refusal
abbrev pub number_of : Refusal → ℕ
number_of refusal.Streets = 1
number_of refusal.Sites = 2
number_of refusal.Chosen = 3
number_of refusal.Kind = 4
number_of refusal.Share = 5
number_of refusal.Length = 6
number_of refusal.Room = 7
number_of refusal.Score = 8
number_of refusal.Gap = 9
number_of refusal.Number = 10
number_of refusal.Twice = 11
number_of refusal.Short = 12
number_of refusal.Mark = 13
number_of refusal.Turn = 14
number_of refusal.Long = 15
number_of refusal.Behind = 16
number_of refusal.Range = 17
number_of refusal.Usage = 18
number_of refusal.Claim = 19
number_of refusal.Again = 20
number_of refusal.Load = 21
number_of refusal.Kilograms = 22
number_of refusal.Litres = 23
number_of refusal.Weight = 24
number_of refusal.Lost = 25

-- of an answer, whatever it gives where it accepts
abbrev pub number : {T : Type 0} → Result T Refusal → ℕ
number (Ok x) = 0
number (Err x) = number_of x

abbrev pub accepts : {T : Type 0} → Result T Refusal → Bool
accepts (Ok x) = true
accepts (Err x) = false

-- of an answer with a total
abbrev pub total : Result ℕ Refusal → ℕ
total (Ok t) = t
total (Err x) = 0

-- the number of an answer is the first of a call's chain for an input
pub record Tried {A : Type 0} (chain : A → ℕ) (input : A) (x : ℕ) : Type 0 where
  pub first : x ≡ chain input

-- an answer to a call whose first refusal is x: that number, and an acceptance exactly where it is 0
pub record Answered {T : Type 0} (r : Result T Refusal) (x : ℕ) : Type 0 where
  pub right-number : number r ≡ x
  pub right-case : accepts r ≡ eqb x 0

-- the same with the total t where it accepts
pub record Told (r : Result ℕ Refusal) (x t : ℕ) : Type 0 where
  pub right-number : number r ≡ x
  pub right-case : accepts r ≡ eqb x 0
  pub right-total : total r ≡ t when eqb x 0
