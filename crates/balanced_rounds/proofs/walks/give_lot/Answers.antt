use native.Mathlib.Omega.{arith}
use Rattle.balanced_rounds.proofs.Walked.{giving-more}
use Rattle.balanced_rounds.proofs.walks.give_lot.Goals as goal

pub loop-s-preserved : goal.loop-s-preserved
loop-s-preserved c =
    let h = c.hand-left in
    let some = c.if-left-eq0.false in
    giving-more c.loop-s.invariant _ _ (omega arith) (omega (arith, some)) h.auto.division
    (rw c.from.ensures at h.ensures.given) (rw c.from.ensures at h.ensures.passed)
