-- Laws of the packed answers: what a caller reads off the one number r.
-- Assumes nothing.
use mathlib.Core.Path.{◌≡◌, refl, ◌∙◌}
use Prim.Native.Nat.{ℕ, zero, suc, ◌*◌}
use lib.Dec.{eqb}
use Rattle.counting.specs.Words.{◌when◌}
use Rattle.std.specs.Prelude.{Result}
use Rattle.call_answers.specs.declared.Refusal.{Refusal}
use Rattle.call_answers.specs.Answers.{number, total, Told}
use Rattle.planner_c.specs.Packed.{packed}

-- a refusal's number goes into the upper half
pub packed-number : (x : ℕ) → x * 4294967296 ≡ packed x 0
packed-number zero = refl
packed-number (suc x) = refl

-- of the total only what is reported where the call is accepted
packed-total : (x t : ℕ) → packed x (t when eqb x 0) ≡ packed x t
unfolding ◌when◌
packed-total zero t = refl
packed-total (suc x) t = refl

-- so an answer to a call whose first refusal is x and whose total is t packs as these two
pub packed-told : (r x t : ℕ) (answer : Result ℕ Refusal) → r ≡ packed (number answer) (total answer) → Told answer x t → r ≡ packed x t
packed-told r x t answer e a = (rw (a.right-number, a.right-total) at e) ∙ packed-total x t
