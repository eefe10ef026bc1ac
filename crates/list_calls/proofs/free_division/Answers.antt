use borrow.Author.Rules.{rules}
use Rattle.refusals.proofs.Listed.{listed-low, free-division-listed, free-division-fits}
use Rattle.list_calls.proofs.ListPromises.{free-division-refused, free-division-given}
use Rattle.list_calls.proofs.free_division.Goals as goal

pub returns-in_err-accepted : goal.returns-in_err-accepted
returns-in_err-accepted c = free-division-refused _ c.in_err-accepted.ensures.tried _ (search rules)

pub divide-requires : goal.divide-requires
divide-requires c =
    let e = c.in_ok-accepted.ensures in
    let l = free-division-listed e.tried in
    rw e.same_town record { sites = (l.called.few, listed-low l); division_len = free-division-fits e.tried }

pub returns : goal.returns
returns c =
    let e = c.in_ok-accepted.ensures in
    let t = c.divide.ensures in
    free-division-given e.tried (rw e.same_town at t.total) (rw e.same_town at t.division)
