use Prim.Native.Nat.{◌≤◌}
use lib.ListN.{length}
use Rattle.counting.specs.Lists.{at, cell}
use Rattle.pairs.proofs.TableRows.{RowIn, most_area}
use Rattle.layers.specs.Layers.{Fitting, Relaxing}
use Rattle.layers.proofs.relax.Given as goal

abbrev pub invariant-loop-b : goal.invariant-loop-b
invariant-loop-b l = (l.b ≤ length l.before) × Fitting (length l.before) (length l.division) l.after l.via l.problem.shares.now
    × RowIn l.a (length l.before) most_area
    × Relaxing (cell l.problem.values.now (length l.before)) (at l.before) (at l.division) (at l.problem.shares.now)
    l.a (length l.division) (length l.before) l.b (at l.after) (at l.via)
