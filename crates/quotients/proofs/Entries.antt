-- From the test of the whole table to the rule at each of its entries.
-- Assumes nothing.
use mathlib.Core.Path.{◌≡◌}
use mathlib.Core.Bool.{Bool, true}
use mathlib.Core.List.{List, [], ◌∷◌}
use mathlib.Mathlib.Data.Bool.Basic.{and_elim_left, and_elim_right}
use Prim.Native.Nat.{ℕ, zero, suc, ◌+◌, ◌-◌, ◌<◌, ◌≤◌}
use native.Mathlib.Nat.{add-zero, suc-add, add-suc, le_of_suc-le-suc, not-suc-le-zero}
use native.Mathlib.Omega.{arith}
use lib.Dec.{eqb}
use lib.ListN.{length, get_or}
use borrow.Author.Tests.{eqb-true}
use Rattle.counting.specs.Bounds.{most_sites}
use Rattle.balanced_plan.specs.Floor.{ceil}
use Rattle.quotients.specs.Table.{each, numbered, is_table}

module _ {A : Type 0} (test : ℕ → A → Bool) (none : A) where
  -- the element at an index passes the test of its number
  each_at : (i : ℕ) (list : List A) → each test i list ≡ true → (j : ℕ) → j < length list → test (i + j) (get_or list j none) ≡ true
  each_at i [] t j l = absurd (not-suc-le-zero l)
  each_at i (x ∷ list) t zero l = rw add-zero (and_elim_left (test i x) (each test (suc i) list) t)
  each_at i (x ∷ list) t (suc j) l =
      rw (add-suc, ← suc-add) (each_at (suc i) list (and_elim_right (test i x) (each test (suc i) list) t) j (le_of_suc-le-suc l))

  -- and so does the one of a number
  numbered-at : (size : ℕ) (list : List A) → numbered size test list ≡ true → (i : ℕ) → 1 ≤ i → i ≤ size → test i (get_or list (i - 1) none) ≡ true
  numbered-at size list t i a b =
      let long : length list ≡ size = eqb-true (length list) size (and_elim_left (eqb (length list) size) (each test 1 list) t) in
      let e : 1 + (i - 1) ≡ i = omega arith in
      rw e at (each_at 1 list (and_elim_right (eqb (length list) size) (each test 1 list) t) (i - 1) (omega arith))

-- what stands in a row and a column
pub entry : (table : List (List ℕ)) → is_table table ≡ true → (row column : ℕ)
    → (1 ≤ row) × (row ≤ most_sites) × (1 ≤ column) × (column ≤ most_sites) → get_or (get_or table (row - 1) []) (column - 1) 0 ≡ ceil row column
entry table t row column (a, b, c, d) =
    let line : List ℕ = get_or table (row - 1) [] in
    eqb-true (get_or line (column - 1) 0) (ceil row column)
    (numbered-at (λ i x. eqb x (ceil row i)) 0 most_sites line
    (numbered-at (λ i. numbered most_sites (λ j x. eqb x (ceil i j))) [] most_sites table t row a b) column c d)
