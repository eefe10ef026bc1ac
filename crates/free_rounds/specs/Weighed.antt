-- The weights by which the streets' scores are summed.
-- Assumes nothing.
use Rattle.std.specs.Prelude.{◌≡◌, ℕ, ◌≤◌, length}
use Rattle.counting.specs.Bounds.{top_weight}
use Rattle.counting.specs.Lists.{at}
use Rattle.free_rounds.specs.declared.weights.Weighing.{Weighing}
use Rattle.free_rounds.specs.declared.weights.Weighing.TheVariants as weighing

-- the weight of a street
abbrev pub weight_of : Weighing → ℕ → ℕ
weight_of (weighing.Even weight) s = weight
weight_of (weighing.Own weights) s = at weights.now s

-- of n streets, how many it has weights for
abbrev pub weights_for : ℕ → Weighing → ℕ
weights_for n (weighing.Even weight) = n
weights_for n (weighing.Own weights) = length weights.now

-- it has a weight of at most 99 for each of n streets
pub record Weighed (n : ℕ) (weights : Weighing) : Type 0 where
  pub size : weights_for n weights ≡ n
  pub small : (s : ℕ) → weight_of weights s ≤ top_weight
