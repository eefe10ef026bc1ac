use mathlib.Core.Path.{◌≡◌}
use native.Mathlib.Omega.{arith}
use Rattle.counting.specs.Lists.{at}
use Rattle.survey.specs.Town.{lent}
use Rattle.survey.specs.Rows.{value}
use Rattle.survey.proofs.Places.{valued-bound}
use Rattle.hand_plans.proofs.Tallies.{total-none, total-more}
use Rattle.hand_plans.proofs.plan_total.Goals as goal

pub loop-s-init : goal.loop-s-init
loop-s-init c = (total-none _, omega arith)

pub overflow_add-total : goal.overflow_add-total
overflow_add-total c =
    let t = lent c.args.town.town in
    let l = c.loop-s in
    let its : c.counted-total.result ≡ value t l.s (at c.args.division.now l.s) = rw c.row.ensures at c.counted-total.ensures in
    let ok = c.args.town.accepted in
    omega (arith, its, valued-bound ok l.s (at c.args.division.now l.s), ok.few-streets, c.requires, l.invariant.1)

pub loop-s-preserved : goal.loop-s-preserved
loop-s-preserved c =
    let t = lent c.args.town.town in
    let l = c.loop-s in
    let its : c.counted-total.result ≡ value t l.s (at c.args.division.now l.s) = rw c.row.ensures at c.counted-total.ensures in
    let most = valued-bound c.args.town.accepted l.s (at c.args.division.now l.s) in
    (total-more _ c.args.division.now l.s l.total _ c.loop-s-test.true l.invariant.0 its, omega (arith, its, most, l.invariant.1))
