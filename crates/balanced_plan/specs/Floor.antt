-- The floor, as document 01 has it, over the score at a place, the length t of the shortest list and a share for each round.
-- Assumes nothing.
use Rattle.std.specs.Prelude.{ℕ, ◌+◌, ◌-◌, ◌*◌, ◌/◌, leb}
use Rattle.counting.specs.Words.{◌when◌, sum_of}

-- a quotient, rounded up
abbrev pub ceil : ℕ → ℕ → ℕ
ceil a b = (a + (b - 1)) / b

-- the place p of round i
abbrev pub depth : ℕ → ℕ → ℕ → ℕ
depth m k i = i + ceil (m - i) (k - i)

-- the score that round i is sure of for each street of its share: that at p if p is at most t, else 0
abbrev pub sure : (ℕ → ℕ) → ℕ → ℕ → ℕ → ℕ → ℕ
sure score t m k i = score (depth m k i) when leb (depth m k i) t

-- what round i adds
abbrev pub added : (ℕ → ℕ) → (ℕ → ℕ) → ℕ → ℕ → ℕ → ℕ → ℕ
added q score t m k i = q i * sure score t m k i

-- the floor: the sum over the rounds
abbrev pub floor : (ℕ → ℕ) → (ℕ → ℕ) → ℕ → ℕ → ℕ → ℕ
floor q score t m k = sum_of k (added q score t m k)
