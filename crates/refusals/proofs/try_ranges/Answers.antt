use borrow.Author.Rules.{rules}
use Rattle.call_answers.proofs.Refused.{loop-error}
use Rattle.refusals.proofs.try_ranges.Goals as goal

pub returns-in_err-try_range : goal.returns-in_err-try_range
returns-in_err-try_range c = search (rules, loop-error, c.in_err-try_range.ensures)
