use Rattle.best_division.proofs.PassBuffers.{given_back}
use Rattle.counting.specs.Lists.{at, cell}
use Rattle.best_division.proofs.best.Goals as goal
use lib.ListN.{length}

pub returns : goal.returns
returns c =
    let improved = c.improve-total in
    let e = improved.ensures in
    let best = given_back (cell c.args.values.now (length c.args.shares.now)) (at improved.new.low) _ c.args.division.now improved.new.division _ _
    improved.auto.division e.total e.shares e.best.1 c.settle.ensures in
    record { total = best.0; division = best.1 }
