use lib.ListN.{length}
use Rattle.counting.specs.Lists.{at, cell}
use Rattle.layers.specs.Layers.{Fitting, Lifts}
use Rattle.layers.proofs.layer.Given as goal

abbrev pub invariant-loop-a : goal.invariant-loop-a
invariant-loop-a l = Fitting (length l.before) (length l.division) l.after l.via l.problem.shares.now
    × Lifts (cell l.problem.values.now (length l.before)) (at l.before) (at l.division) (at l.problem.shares.now)
    l.a (length l.division) (length l.before) (at l.after) (at l.via)
