use lib.ListN.{take}
use Rattle.counting.specs.Lists.{at}
use Rattle.loads.specs.Sums.{Summed}
use Rattle.loads.proofs.sum_sites.Given as goal

abbrev pub invariant-loop-s : goal.invariant-loop-s
invariant-loop-s l = Summed (at l.loads) l.sums (take l.s l.division)
