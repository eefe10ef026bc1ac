use borrow.Author.Rules.{rules}
use Rattle.call_answers.proofs.Refused.{loop-error}
use Rattle.survey_check.proofs.check.try_weights.Goals as goal

pub returns-in_err-try_weight : goal.returns-in_err-try_weight
returns-in_err-try_weight c = search (rules, loop-error, c.in_err-try_weight.ensures)
