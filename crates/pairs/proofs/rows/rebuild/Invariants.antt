use mathlib.Core.Path.{◌≡◌}
use lib.ListN.{length}
use Rattle.counting.specs.Lists.{at}
use Rattle.pairs.specs.BestMoves.{value_of}
use Rattle.pairs.specs.Moves.{Row}
use Rattle.pairs.proofs.rows.rebuild.Given as goal

abbrev pub invariant-loop-s : goal.invariant-loop-s
invariant-loop-s l = (length l.pairs ≡ length l.problem.shares.now) × (length l.gains ≡ length l.problem.shares.now)
    × Row (value_of l.problem) (at l.division) l.a l.s (length l.division) (length l.problem.shares.now) (at l.gains) (at l.pairs)
