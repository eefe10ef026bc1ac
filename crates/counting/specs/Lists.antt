-- The words for lists of sites and of streets.
-- Assumes nothing.
use Rattle.std.specs.Prelude.{ℕ, ◌+◌, ◌*◌, Bool, true, false, not, ◌&&◌, ◌||◌, cond, List, [], ◌∷◌, eqb, get_or}
use Rattle.counting.specs.Words.{one}

-- what stands at an index, counted from 0
abbrev pub at : List ℕ → ℕ → ℕ
at list i = get_or list i 0

-- what stands in a row and a column of a table of a width
abbrev pub cell : List ℕ → ℕ → ℕ → ℕ → ℕ
cell table width row column = at table (row * width + column)

-- whether a number stands in a list
abbrev pub has : ℕ → List ℕ → Bool
has a [] = false
has a (b ∷ list) = eqb a b || has a list

-- whether no number stands in a list twice
abbrev pub distinct : List ℕ → Bool
distinct [] = true
distinct (a ∷ list) = not (has a list) && distinct list

-- how often a number stands in a list
unfoldable pub count : List ℕ → ℕ → ℕ
count [] a = 0
count (b ∷ list) a = one (eqb b a) + count list a

-- the sum of f over a list
abbrev pub sum : (ℕ → ℕ) → List ℕ → ℕ
sum f [] = 0
sum f (a ∷ list) = f a + sum f list

-- the numbers of a list that pass a test
abbrev pub only : (ℕ → Bool) → List ℕ → List ℕ
only test [] = []
only test (a ∷ list) = let more : List ℕ = only test list in cond (test a) (a ∷ more) more
