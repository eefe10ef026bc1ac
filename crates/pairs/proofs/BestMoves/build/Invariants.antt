use lib.ListN.{length}
use Rattle.pairs.specs.Moves.{Mended}
use Rattle.pairs.proofs.BestMoves.build.Given as goal

abbrev pub invariant-loop-a : goal.invariant-loop-a
invariant-loop-a l = Mended l.problem.values.now l.division (length l.problem.shares.now) (λ x. x) l.a (length l.problem.shares.now) l.self.pairs l.self.gains
