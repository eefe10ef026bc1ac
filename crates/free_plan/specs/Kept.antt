-- The free plan that starts from kept sites, as document 02 has it (2026-07), and its bound, over any value `v street site`.
-- Assumes nothing.
use Rattle.std.specs.Prelude.{ℕ, ◌-◌, ◌*◌, ◌^◌, ◌≤◌, List, length}
use Rattle.counting.specs.Sites.{Sub, Choice}
use Rattle.free_plan.specs.Greedy.{total, greedy}

-- the rounds that are left of k, once the kept sites stand
abbrev pub rounds_left : ℕ → List ℕ → ℕ
rounds_left k kept = k - length kept

-- the sites of a free plan of k sites, in order of choice: the kept ones in their order, and then those that the rounds left add
abbrev pub keeping : (ℕ → ℕ → ℕ) → ℕ → ℕ → ℕ → List ℕ → List ℕ
keeping v n m k kept = greedy v n m (rounds_left k kept) kept

-- the bound of j rounds, from sites with the total F to a plan with the total S, against a choice with the total T
abbrev pub RoundsBound : ℕ → ℕ → ℕ → ℕ → Type 0
RoundsBound j F S T = j ^ j * (T - S) ≤ (j - 1) ^ j * (T - F)

-- the bound of a plan with the total S: it holds against every choice of k sites that holds the kept ones
abbrev pub KeptBound : (ℕ → ℕ → ℕ) → ℕ → ℕ → ℕ → List ℕ → ℕ → Type 0
KeptBound v n m k kept S = (other : List ℕ) → Choice m k other → Sub kept other → RoundsBound (rounds_left k kept) (total v n kept) S (total v n other)

-- document 01's bound, of a plan without kept sites: K ^ K * (T - S) ≤ (K - 1) ^ K * T for every choice of K sites
abbrev pub FreeBound : (ℕ → ℕ → ℕ) → ℕ → ℕ → ℕ → ℕ → Type 0
FreeBound v n m k S = (other : List ℕ) → Choice m k other → k ^ k * (total v n other - S) ≤ (k - 1) ^ k * total v n other
