use mathlib.Core.Path.{sym}
use Rattle.std.proofs.lemmas.Result.{err_from_is_err_and}
use Rattle.call_answers.proofs.Refused.{loop-refused}
use Rattle.file_writer.proofs.try_losses.Goals as goal

pub returns-in_err-try_loss : goal.returns-in_err-try_loss
returns-in_err-try_loss c =
    let left = err_from_is_err_and c.from_residual.result c.from_residual.ensures.1 in
    rw (left.1, left.2) (sym (loop-refused _ _ _ _ (c.loop-weight-test.true) c.loop-weight.invariant c.in_err-try_loss.ensures))
