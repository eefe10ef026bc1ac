use mathlib.Core.Path.{◌∙◌}
use native.Mathlib.Omega.{arith}
use Rattle.queues.proofs.PathBack.{turning-step, turning-done}
use Rattle.queues.proofs.LeaveLimits.{limits-move, limits-own}
use Rattle.queues.proofs.queue.Queue.turn.Goals as goal

pub loop-p-preserved : goal.loop-p-preserved
loop-p-preserved c =
    let (differ, way) = c.requires.differ in
    let p = c.loop-p.p in
    let i = c.loop-p.invariant in
    let near = way.nearer p (omega arith) (omega arith) in
    let later = way.later p (omega arith) (omega arith) in
    let raised = rw c.from-in-loop-p.ensures at c.raise.ensures in (
      omega (arith, near, c.from-next.ensures),
      rw (c.from.ensures, c.from-next.ensures) (turning-step way i.1 differ (omega arith) (omega arith)),
      c.raise.auto.limits ∙ i.2,
      λ v d shares h. rw c.from.ensures (limits-move (i.3 v d shares h) _ _ _ (omega (arith, i.1.long, later.street)) raised),
    )

pub returns : goal.returns
returns c =
    let i = c.loop-p.invariant in
    record {
      turned = turning-done c.requires.differ.1 i.1 (omega arith) (omega arith);
      by_index = λ v d shares h. limits-own (i.3 v d shares h) _;
    }
