use borrow.Author.Rules.{rules}
use Rattle.call_answers.proofs.Refused.{loop-error}
use Rattle.survey_check.proofs.Bits.{bits_none}
use Rattle.survey_check.proofs.check.try_rows.Goals as goal

pub set_bits-requires-clause-zeros : goal.set_bits-requires-clause-zeros
set_bits-requires-clause-zeros c = bits_none

pub returns-in_err-try_street : goal.returns-in_err-try_street
returns-in_err-try_street c = search (rules, loop-error, c.in_err-try_street.ensures)
