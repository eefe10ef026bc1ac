use borrow.Author.Rules.{rules}
use Rattle.refusals.proofs.Listed.{floor-called}
use Rattle.call_answers.proofs.Answers.{told-error, told-total}
use Rattle.plan_calls.proofs.PlanPromises.{floor-given}
use Rattle.plan_calls.proofs.floor.Goals as goal

pub returns-in_err-accepted : goal.returns-in_err-accepted
returns-in_err-accepted c = floor-given _ _ (told-error _ c.in_err-accepted.ensures.tried _ (search rules))

pub floor-requires : goal.floor-requires
floor-requires c =
    let e = c.in_ok-accepted.ensures in
    let l = floor-called e.tried in
    rw e.same_town (l.some, l.few)

pub returns : goal.returns
returns c =
    let e = c.in_ok-accepted.ensures in
    floor-given _ _ (told-total e.tried (rw e.same_town at c.floor.ensures))
