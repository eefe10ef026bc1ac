-- The order of the streets in a round of the balanced plan, said with no key.
-- Assumes nothing.
use Rattle.std.specs.Prelude.{ℕ, ◌<◌, ◌↔◌}
use Rattle.survey.specs.Town.{Town}
use Rattle.survey.specs.Rows.{value, street_place}
use Rattle.balanced_plan.specs.Falling.{ComesFirst}
use Rattle.plans.specs.Plans.{street_key}

-- the key puts a street in front of another exactly where its counted score for the site is higher, or equal and its place better, unranked after all
-- places; equal keys leave the order to the streets' numbers
abbrev pub ByCountedScore : Town → Type 0
ByCountedScore t = (a s u : ℕ) → (street_key t a s < street_key t a u) ↔ ComesFirst (value t) (street_place t) t.m a s u
