use Rattle.pairs.proofs.Mending.{mended-more}
use Rattle.pairs.proofs.BestMoves.build.Goals as goal

pub loop-a-preserved : goal.loop-a-preserved
loop-a-preserved c = mended-more c.renew.ensures c.loop-a.invariant
