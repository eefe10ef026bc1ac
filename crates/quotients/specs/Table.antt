-- Document 02's table of quotients, as one test over the whole of it.
-- Assumes nothing.
use Rattle.std.specs.Prelude.{Bool, true, ◌&&◌, List, [], ◌∷◌, ℕ, suc, eqb, length}
use Rattle.counting.specs.Bounds.{most_sites}
use Rattle.balanced_plan.specs.Floor.{ceil}

-- whether each element of a list passes the test of its number, where the first has the number i
abbrev pub each : {A : Type 0} → (ℕ → A → Bool) → ℕ → List A → Bool
each test i [] = true
each test i (x ∷ list) = test i x && each test (suc i) list

-- whether a list has so many elements, numbered from 1, and each passes the test of its number
abbrev pub numbered : {A : Type 0} → ℕ → (ℕ → A → Bool) → List A → Bool
numbered size test list = eqb (length list) size && each test 1 list

-- whether a table has 64 rows by 64 numbers, each its row number divided by its column number, rounded up
abbrev pub is_table : List (List ℕ) → Bool
is_table = numbered most_sites (λ row. numbered most_sites (λ column x. eqb x (ceil row column)))
