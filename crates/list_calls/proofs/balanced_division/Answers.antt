use borrow.Author.Rules.{rules}
use Rattle.refusals.proofs.Listed.{balanced-division-fits}
use Rattle.list_calls.proofs.ListPromises.{balanced-division-refused, shareable, balanced-division-given}
use Rattle.list_calls.proofs.balanced_division.Goals as goal

pub returns-in_err-accepted : goal.returns-in_err-accepted
returns-in_err-accepted c = balanced-division-refused _ c.in_err-accepted.ensures.tried _ (search rules)

pub divide-requires : goal.divide-requires
divide-requires c =
    let e = c.in_ok-accepted.ensures in
    rw e.same_town record { shareable = shareable e.tried; division_len = balanced-division-fits e.tried }

pub returns : goal.returns
returns c =
    let e = c.in_ok-accepted.ensures in
    let t = c.divide.ensures in
    balanced-division-given e.tried (rw e.same_town at t.total) (rw e.same_town at t.division)
