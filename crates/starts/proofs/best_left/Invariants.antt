use Rattle.starts.specs.Given.{Seen}
use Rattle.starts.proofs.best_left.Given as goal

abbrev pub invariant-loop-a : goal.invariant-loop-a
invariant-loop-a l = Seen l.left l.a l.best
