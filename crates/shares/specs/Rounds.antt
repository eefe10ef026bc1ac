-- The share of a round, as document 02 has it: with n = q k + r and r below k, the first r of k rounds deal q + 1 streets and the others q.
-- The i-th entry of a list of k sites has the share of round i. Rounds are counted from 0.
-- Assumes nothing.
use Rattle.std.specs.Prelude.{ℕ, ◌+◌, ◌/◌, ◌%◌, ltb}
use Rattle.counting.specs.Words.{one}

-- q: what each round deals at the least
abbrev pub least_share : ℕ → ℕ → ℕ
least_share n k = n / k

-- r: how many rounds, the first ones, deal one street more
abbrev pub larger_shares : ℕ → ℕ → ℕ
larger_shares n k = n % k

-- the share of round i
abbrev pub round_share : ℕ → ℕ → ℕ → ℕ
round_share n k i = least_share n k + one (ltb i (larger_shares n k))
