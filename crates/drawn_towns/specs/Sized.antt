-- The sizes of the arrays of loads, which the contracts cite.
-- Assumes nothing.
use Rattle.std.specs.Prelude.{◌≡◌, length}
use Rattle.drawn_towns.specs.declared.loads.Load.{Load}
use Rattle.drawn_towns.specs.declared.loads.Loads.{Loads}

-- one kind of load
pub record SizedLoad (load : Load) : Type 0 where
  pub streets-size : length load.streets ≡ 8
  pub limits-size : length load.limits ≡ 5

-- both kinds
pub record Sized (loads : Loads) : Type 0 where
  pub kilograms : SizedLoad loads.kilograms
  pub litres : SizedLoad loads.litres
