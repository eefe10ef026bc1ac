use borrow.Author.Rules.{rules}
use Prim.Native.Nat.{◌<◌}
use native.Mathlib.Omega.{arith}
use Rattle.counting.specs.Lists.{at}
use Rattle.counting.proofs.Flagging.{flags-none}
use Rattle.counting.proofs.Refusals.{first-start, first-quiet}
use Rattle.call_answers.proofs.Refused.{loop-error}
use Rattle.survey.proofs.RowLoops.{seen_more}
use Rattle.refusals.proofs.try_twice.Goals as goal

pub loop-site-init : goal.loop-site-init
loop-site-init c = (first-start _, flags-none)

pub returns-in_err-when : goal.returns-in_err-when
returns-in_err-when c =
    let l = c.loop-site in
    let small : at c.args.sites.now l.site-index < 256 = omega (arith, c.type_inv.sites l.site-index) in
    let here = rw (l.invariant.1.right _ small) at (rw c.from-at.ensures at c.in_err-when.ensures) in
    loop-error l.site-index _ _ _ _ l.invariant.0 (search rules) here c.loop-site-test.true

pub loop-site-preserved : goal.loop-site-preserved
loop-site-preserved c =
    let l = c.loop-site in
    let small : at c.args.sites.now l.site-index < 256 = omega (arith, c.type_inv.sites l.site-index) in
    let here = rw (l.invariant.1.right _ small) at (rw c.from-at.ensures at c.in_ok-when.ensures) in
    (first-quiet l.site-index _ l.invariant.0 here, rw c.from-at.ensures (seen_more _ l.seen l.site-index c.loop-site-test.true small l.invariant.1))
