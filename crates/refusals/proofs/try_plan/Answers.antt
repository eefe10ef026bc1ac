use mathlib.Core.Path.{sym}
use Rattle.survey.specs.Town.{lent}
use Rattle.survey.proofs.Sound.{own-accepted}
use Rattle.call_answers.specs.Answers.{number}
use Rattle.call_answers.proofs.Refused.{numbered}
use Rattle.refusals.proofs.try_plan.Goals as goal

-- an accepted survey has nothing refused between 3 and 8
pub returns-in_err-own-clause-tried : goal.returns-in_err-own-clause-tried
returns-in_err-own-clause-tried c =
    let none = own-accepted (lent c.args.town) c.args.k (number c.try_own-own.result) (sym c.in_ok-accepted.ensures.refusal) in
    absurd (numbered _ (rw c.in_err-own.was at none))
