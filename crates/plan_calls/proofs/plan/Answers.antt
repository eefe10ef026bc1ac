use borrow.Author.Rules.{rules}
use mathlib.Core.Path.{sym, ap, ◌∙◌}
use Rattle.survey.specs.ByKind.{kind_number}
use Rattle.survey.proofs.ByKind.{kind-one}
use Rattle.refusals.proofs.Listed.{plan-fits, plan-asked}
use Rattle.plan_calls.proofs.PlanPromises.{plan-refused, free-given, balanced-given}
use Rattle.plan_calls.proofs.plan.Goals as goal

pub returns-in_err-accepted : goal.returns-in_err-accepted
returns-in_err-accepted c = plan-refused _ c.in_err-accepted.ensures.tried _ (search rules)

-- the free plan
pub plan-requires : goal.plan-requires
plan-requires c =
    let e = c.in_ok-accepted.ensures in
    rw e.same_town record { chosen_len = (plan-asked e.tried).1; division_len = (plan-fits e.tried).0 }

pub returns-in-Free : goal.returns-in-Free
returns-in-Free c =
    let e = c.in_ok-accepted.ensures in
    let p = c.plan.ensures in
    free-given e.tried (sym e.decoded ∙ ap kind_number c.in-Free.is) (rw e.same_town at p.total, rw e.same_town at p.division, rw e.same_town at p.chosen)

-- the balanced plan
pub plan-requires-in-Balanced : goal.plan-requires-in-Balanced
plan-requires-in-Balanced c =
    let e = c.in_ok-accepted.ensures in
    rw e.same_town record { chosen_len = plan-asked e.tried; division_len = (plan-fits e.tried).0 }

pub returns-in-Balanced : goal.returns-in-Balanced
returns-in-Balanced c =
    let e = c.in_ok-accepted.ensures in
    let p = c.plan-in-Balanced.ensures in
    let kind = kind-one (sym e.decoded ∙ ap kind_number c.in-Balanced.is) in
    balanced-given e.tried kind (rw e.same_town at p.total, rw e.same_town at p.division, rw e.same_town at p.chosen)
