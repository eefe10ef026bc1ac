-- The order of the streets for a site, said with no key: which of two comes first, that values never rise along the order, and keys that give the same order.
-- Assumes nothing.
use Rattle.std.specs.Prelude.{◌≡◌, ◌⊎◌, ℕ, ◌≤◌, ◌<◌, ltb}
use Rattle.balanced_plan.specs.Rounds.{place_key}

-- a street s comes before another t for a site: its counted score is higher, or equal and its place better, an unranked one being after all
abbrev pub ComesFirst : (ℕ → ℕ → ℕ) → (ℕ → ℕ → ℕ) → ℕ → ℕ → ℕ → ℕ → Type 0
ComesFirst v place m a s t = (v t a < v s a) ⊎ ((v s a ≡ v t a) × (place_key place m a s < place_key place m a t))

-- values that fall along the order of a key: a street whose key for a site is no greater gives it no less
abbrev pub FallsBy : (ℕ → ℕ → ℕ) → (ℕ → ℕ → ℕ) → ℕ → ℕ → Type 0
FallsBy key v n m = (a s t : ℕ) → a ≤ m → s < n → t < n → key a s ≤ key a t → v t a ≤ v s a

-- keys that compare alike for the n streets, at each of the sites up to m
abbrev pub CompareAlike : (ℕ → ℕ → ℕ) → (ℕ → ℕ → ℕ) → ℕ → ℕ → Type 0
CompareAlike key lock n m = (a s t : ℕ) → a ≤ m → s < n → t < n → ltb (key a s) (key a t) ≡ ltb (lock a s) (lock a t)
