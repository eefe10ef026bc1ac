use Rattle.counting.specs.Lists.{at}
use Rattle.choices.proofs.Scanned.{Scanned}
use Rattle.choices.proofs.best_site.Given as goal

abbrev pub invariant-loop-i : goal.invariant-loop-i
invariant-loop-i l = Scanned (at l.sums) l.flags l.i l.best
