use native.Mathlib.Omega.{arith}
use Rattle.balanced_rounds.proofs.Walked.{adding-more, adding-stop}
use Rattle.balanced_rounds.proofs.walks.worth.Goals as goal

pub returns-then-value-eq0 : goal.returns-then-value-eq0
returns-then-value-eq0 c =
    let t = c.args.table in
    let l = c.loop-street in
    rw (← c.line-line.ensures)
    (adding-stop l.invariant (omega arith) (omega (arith, c.if-value-eq0.true, rw c.from-s.ensures at c.value-value.ensures))
    (rw c.line-line.ensures (t.falling c.args.a c.requires.1)))

pub loop-street-preserved : goal.loop-street-preserved
loop-street-preserved c =
    let l = c.loop-street in
    let some = c.if-tally-eq0.false in
    adding-more l.invariant (omega arith) (rw (c.value-value.ensures, c.from-s.ensures) at c.step-tally.ensures)
    (omega (arith, some)) (c.args.table.street_table.small _)
