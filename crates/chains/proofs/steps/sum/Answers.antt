use mathlib.Core.Path.{ap}
use Prim.Native.Nat.{◌+◌, ◌*◌}
use native.Mathlib.Omega.{arith}
use lib.ListN.{length}
use Rattle.counting.specs.Lists.{at}
use Rattle.pairs.specs.BestMoves.{value_of}
use Rattle.chains.proofs.SearchLoops.{sum-start, sum-next}
use Rattle.chains.proofs.steps.sum.Goals as goal

pub loop-s-init : goal.loop-s-init
loop-s-init c = (sum-start _ c.args.division.now, omega arith)

pub loop-s-preserved : goal.loop-s-preserved
loop-s-preserved c =
    let a = c.args in
    let l = c.loop-s in
    let w = length a.problem.now.shares.now in
    let value = ap (λ x. at a.problem.now.values.now (l.s * w + x)) c.from.ensures in (
      sum-next (value_of a.problem.now) a.division.now l.s _ _ (omega arith) l.invariant.0 value,
      omega (arith, c.requires.0.small (l.s * w + c.from.result), l.invariant.1),
    )
