-- The words for the table of the best moves as it is kept, by the problem that it is made for.
-- Assumes nothing.
use Rattle.std.specs.Prelude.{ℕ, List, length}
use Rattle.counting.specs.Lists.{cell}
use Rattle.pairs.specs.declared.Problem.{Problem}
use Rattle.pairs.specs.declared.BestMoves.{BestMoves}
use Rattle.pairs.specs.Moves.{Valued, Tables}

-- the value of a site for a street
abbrev pub value_of : Problem → ℕ → ℕ → ℕ
value_of problem = cell problem.values.now (length problem.shares.now)

-- a division that the problem's values are for
abbrev pub Fits : Problem → List ℕ → Type 0
Fits problem D = Valued problem.values.now D (length problem.shares.now)

-- the best moves of all sites
abbrev pub BestFor : Problem → List ℕ → BestMoves → Type 0
BestFor problem D moves = Tables problem.values.now D (length problem.shares.now) moves.pairs moves.gains
