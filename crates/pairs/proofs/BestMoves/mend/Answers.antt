use Rattle.pairs.proofs.Mending.{mended-more}
use Rattle.pairs.proofs.BestMoves.mend.Goals as goal

pub loop-site-preserved : goal.loop-site-preserved
loop-site-preserved c = mended-more (rw c.from.ensures at c.renew.ensures) c.loop-site.invariant
