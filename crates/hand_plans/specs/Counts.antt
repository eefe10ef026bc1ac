-- The test of a site's number of streets, which a hand plan is tried by.
-- Assumes nothing.
use Rattle.std.specs.Prelude.{ℕ, Bool, not}
use Rattle.counting.specs.Words.{outside}

-- whether a number is within two bounds
abbrev pub between : ℕ → ℕ → ℕ → Bool
between least most x = not (outside x least most)
