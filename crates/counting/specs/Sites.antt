-- The words for lists of sites: within 1 to m, one within another, and a plan of i different sites.
-- Assumes nothing.
use Rattle.std.specs.Prelude.{◌≡◌, true, List, ℕ, ◌≤◌, ◌<◌, length}
use Rattle.counting.specs.Lists.{has, distinct}

-- each site of the list is one of 1 to m
abbrev pub Sites : ℕ → List ℕ → Type 0
Sites m S = (a : ℕ) → has a S ≡ true → (0 < a) × (a ≤ m)

-- each site of the first list stands in the second
abbrev pub Sub : List ℕ → List ℕ → Type 0
Sub S T = (a : ℕ) → has a S ≡ true → has a T ≡ true

-- a list of i different sites of 1 to m
pub record Choice (m i : ℕ) (S : List ℕ) : Type 0 where
  pub sites : Sites m S
  pub apart : distinct S ≡ true
  pub size : length S ≡ i
