use borrow.Author.Rules.{rules}
use Rattle.call_answers.proofs.Refused.{loop-error}
use Rattle.loads.proofs.try_most.Goals as goal

pub returns-in_err-when : goal.returns-in_err-when
returns-in_err-when c = search (rules, loop-error, c.in_err-when.ensures)
