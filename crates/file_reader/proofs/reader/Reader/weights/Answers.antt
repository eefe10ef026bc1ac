use native.Mathlib.Omega.{arith}
use mathlib.Core.Path.{◌∙◌}
use Rattle.call_answers.proofs.Refused.{handed}
use Rattle.file_reader.specs.Left.{left}
use Rattle.file_reader.proofs.Whole.{past-weights, weights-new}
use Rattle.file_reader.proofs.reader.Reader.weights.Goals as goal

pub returns-in_err-next-clause-number : goal.returns-in_err-next-clause-number
returns-in_err-next-clause-number c =
    let a = c.args in
    handed _ _ c.from_residual.ensures.1 ∙ c.in_err-next.ensures.right-number ∙ weights-new a.n a.new_form (left a.self) c.if-not-new_form.false

pub overflow_add-n : goal.overflow_add-n
overflow_add-n c = omega (arith, past-weights _ _ c.args.n c.requires c.in_ok-next.ensures.right-number)

pub past-requires : goal.past-requires
past-requires c = past-weights _ _ c.args.n c.requires c.in_ok-next.ensures.right-number

pub returns-clause-number : goal.returns-clause-number
returns-clause-number c =
    let a = c.args in
    c.in_ok-next.ensures.right-number ∙ weights-new a.n a.new_form (left a.self) c.if-not-new_form.false
