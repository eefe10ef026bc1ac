use Rattle.loads.proofs.SiteSums.{summed-none}
use Rattle.hand_plans.proofs.Tallies.{used-counted}
use Rattle.hand_plans.proofs.try_used.Goals as goal

pub count_streets-requires : goal.count_streets-requires
count_streets-requires c = summed-none (λ i. 1)

pub returns : goal.returns
returns c = rw (used-counted _ c.args.division.now c.args.m _ c.requires c.count_streets.ensures c.count_sites.ensures) at c.when.ensures
