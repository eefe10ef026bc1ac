use borrow.Author.Rules.{rules}
use Rattle.refusals.proofs.Listed.{listed-low, list-total-listed}
use Rattle.call_answers.proofs.Answers.{told-error, told-total}
use Rattle.list_calls.proofs.ListPromises.{list-totalled}
use Rattle.list_calls.proofs.list_total.Goals as goal

pub returns-in_err-accepted : goal.returns-in_err-accepted
returns-in_err-accepted c = list-totalled _ _ (told-error _ c.in_err-accepted.ensures.tried _ (search rules))

pub list_total-requires : goal.list_total-requires
list_total-requires c =
    let e = c.in_ok-accepted.ensures in
    let l = list-total-listed e.tried in
    rw e.same_town (l.called.few, listed-low l)

pub returns : goal.returns
returns c =
    let e = c.in_ok-accepted.ensures in
    list-totalled _ _ (told-total e.tried (rw e.same_town at c.list_total.ensures))
