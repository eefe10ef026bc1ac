use lib.ListN.{take}
use Rattle.loads.specs.Sums.{Summed}
use Rattle.hand_plans.proofs.count_streets.Given as goal

abbrev pub invariant-loop-site : goal.invariant-loop-site
invariant-loop-site l = Summed (λ i. 1) l.counts (take l.site-index l.division)
