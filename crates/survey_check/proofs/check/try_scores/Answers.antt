use borrow.Author.Rules.{rules}
use Rattle.call_answers.proofs.Refused.{loop-error}
use Rattle.survey_check.proofs.check.try_scores.Goals as goal

pub returns-in_err-try_score : goal.returns-in_err-try_score
returns-in_err-try_score c = search (rules, loop-error, c.in_err-try_score.ensures)
