use native.Mathlib.Omega.{arith}
use Rattle.floors.proofs.FloorSteps.{sum_more}
use Rattle.floors.proofs.Rounds.plain_floor.Goals as goal

pub loop-i-preserved : goal.loop-i-preserved
loop-i-preserved c = (sum_more _ _ _ _ c.loop-i.invariant.0 c.added-total.ensures.0, omega arith)
