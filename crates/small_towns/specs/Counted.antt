-- What holds of the sizes that were tried, which the contracts cite.
-- Assumes nothing.
use Rattle.std.specs.Prelude.{◌≡◌, ◌≤◌, length}
use Rattle.small_towns.specs.declared.sizes.Sizes.{Sizes}

-- uneven and short choices are choices, and the table has its size
pub record Counted (sizes : Sizes) : Type 0 where
  pub some-uneven : sizes.uneven ≤ sizes.choices
  pub some-short : sizes.short ≤ sizes.choices
  pub met-size : length sizes.met ≡ 40
