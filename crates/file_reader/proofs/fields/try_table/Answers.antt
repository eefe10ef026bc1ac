use borrow.Author.Rules.{rules}
use Rattle.call_answers.proofs.Refused.{loop-error}
use Rattle.file_reader.proofs.fields.try_table.Goals as goal

pub returns-in_err-try_score : goal.returns-in_err-try_score
returns-in_err-try_score c = loop-error c.loop-i.i _ _ _ _ c.loop-i.invariant (search rules) c.in_err-try_score.ensures c.loop-i-test.true
