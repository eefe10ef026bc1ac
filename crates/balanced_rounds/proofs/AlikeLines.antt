-- Lines by one key are lines by any other that compares alike.
-- Assumes nothing.
use mathlib.Core.Path.{◌∙◌}
use mathlib.Core.Bool.{true}
use mathlib.Core.List.{List}
use Prim.Native.Nat.{ℕ}
use Rattle.balanced_plan.specs.Falling.{CompareAlike}
use Rattle.balanced_plan.proofs.Agree.{ordered-alike}
use Rattle.balanced_rounds.specs.Lines.{Orders}

pub orders-alike : (key lock : ℕ → ℕ → ℕ) (n m : ℕ) (orders : List ℕ) → CompareAlike key lock n m → Orders key n m orders → Orders lock n m orders
orders-alike key lock n m orders same o a l = o a l ∙ ordered-alike (key a) (lock a) (λ s. true) n (λ s t. same a s t l)
