use native.Mathlib.Omega.{arith}
use native.Mathlib.Nat.{add-sub_cancel_left}
use mathlib.Core.Path.{sym, ap, ◌∙◌}
use Prim.Native.Nat.{◌+◌, ◌*◌}
use Rattle.survey_file.specs.Filed.{form_refusal}
use Rattle.survey_file.proofs.Weights.{ones-kept}
use Rattle.file_converter.proofs.Converting.{few, new-there, weights-new, weights-old}
use Rattle.file_converter.proofs.try_form.Goals as goal

pub returns-then-not-new_form : goal.returns-then-not-new_form
returns-then-not-new_form c =
    let a = c.args in
    let t = a.taken in
    sym (ones-kept a.wanted t.sizes.n) ∙ ap (form_refusal a.wanted) (weights-old t.file.now t.sizes.n t.sizes.m t.sizes.new_form t.taken c.if-not-new_form.true)

pub overflow_mul-from : goal.overflow_mul-from
overflow_mul-from c =
    let t = c.args.taken in
    omega (arith, few t.file.now t.sizes.n t.sizes.m t.sizes.new_form t.taken)

pub overflow_add-from : goal.overflow_add-from
overflow_add-from c =
    let t = c.args.taken in
    omega (arith, few t.file.now t.sizes.n t.sizes.m t.sizes.new_form t.taken)

pub overflow_add-from-2 : goal.overflow_add-from-2
overflow_add-from-2 c =
    let t = c.args.taken in
    omega (arith, few t.file.now t.sizes.n t.sizes.m t.sizes.new_form t.taken)

pub slice_bounds-try_form-end : goal.slice_bounds-try_form-end
slice_bounds-try_form-end c =
    let a = c.args in
    let t = a.taken in
    omega (arith, new-there t.file.now t.sizes.n t.sizes.m t.sizes.new_form t.taken c.if-not-new_form.false)

pub returns : goal.returns
returns c =
    let a = c.args in
    let t = a.taken in
    c.try_form.ensures
    ∙ ap (form_refusal a.wanted) (weights-new t.file.now t.sizes.n t.sizes.m t.sizes.new_form t.taken c.if-not-new_form.false _
    (add-sub_cancel_left (11 + 2 * t.sizes.m) t.sizes.n))
