use lib.ListN.{length}
use Rattle.counting.specs.Lists.{at}
use Rattle.pairs.specs.Moves.{Mended}
use Rattle.pairs.proofs.BestMoves.mend.Given as goal

abbrev pub invariant-loop-site : goal.invariant-loop-site
invariant-loop-site l = Mended l.problem.values.now l.division (length l.problem.shares.now) (at l.sites) l.site-index (length l.sites) l.self.pairs l.self.gains
