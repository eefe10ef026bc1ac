-- The words for refusals and sums: a number is one of document 01's refusal numbers, and 0 where there is nothing to refuse.
-- Assumes nothing.
use Rattle.std.specs.Prelude.{ℕ, zero, suc, ◌+◌, Bool, true, false, ◌||◌, ltb}

infix 20 ◌when◌ ◌unless◌
infixr 15 ◌or_else◌
-- the number where the test holds, and 0 where it fails
unfoldable pub ◌when◌ : ℕ → Bool → ℕ
x when true = x
x when false = 0

-- the other way round
unfoldable pub ◌unless◌ : ℕ → Bool → ℕ
x unless true = 0
x unless false = x

-- the first of two numbers, and the second where the first is 0
unfoldable pub ◌or_else◌ : ℕ → ℕ → ℕ
zero or_else y = y
suc x or_else y = suc x

-- the first of f 0, f 1, .., f (n - 1) that is not 0, and 0 where each of them is
unfoldable pub first_nonzero : ℕ → (ℕ → ℕ) → ℕ
first_nonzero zero f = 0
first_nonzero (suc n) f = first_nonzero n f or_else f n

-- the sum of f 0, f 1, .., f (n - 1)
abbrev pub sum_of : ℕ → (ℕ → ℕ) → ℕ
sum_of zero f = 0
sum_of (suc n) f = sum_of n f + f n

-- 1 where the test holds, else 0
abbrev pub one : Bool → ℕ
one true = 1
one false = 0

-- how many of 0, 1, .., n - 1 pass the test
abbrev pub count_of : ℕ → (ℕ → Bool) → ℕ
count_of n test = sum_of n (λ i. one (test i))

-- below the one bound or above the other
abbrev pub outside : ℕ → ℕ → ℕ → Bool
outside x low high = ltb x low || ltb high x
