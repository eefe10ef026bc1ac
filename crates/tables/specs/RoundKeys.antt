-- The keys by which a balanced round orders the streets, from the rows and any value `v street site`.
-- Assumes nothing.
use Rattle.std.specs.Prelude.{List, ℕ}
use Rattle.counting.specs.Bounds.{most_value}
use Rattle.survey.specs.Rows.{row_at, place_of}
use Rattle.balanced_plan.specs.Rounds.{place_key, counted_key}

-- the place that a street gives a site
abbrev pub row_place : ℕ → List ℕ → ℕ → ℕ → ℕ
row_place m rows s a = place_of (row_at m rows s) a

-- the key of a site and a street by place
abbrev pub row_key : ℕ → List ℕ → ℕ → ℕ → ℕ
row_key m rows = place_key (row_place m rows) m

-- and by counted score, then by place
abbrev pub round_key : (ℕ → ℕ → ℕ) → ℕ → List ℕ → ℕ → ℕ → ℕ
round_key v m rows = counted_key v (row_place m rows) most_value m
