use native.Mathlib.Omega.{arith}
use Rattle.survey_file.proofs.Lengths.{size-most}
use Rattle.file_converter.proofs.Converting.{few, weights-there, converted-size}
use Rattle.file_converter.proofs.converted_length.Goals as goal

pub weights_size-requires : goal.weights_size-requires
weights_size-requires c = let t = c.args.taken in (few t.file.now t.sizes.n t.sizes.m t.sizes.new_form t.taken).0

pub overflow_sub-result : goal.overflow_sub-result
overflow_sub-result c =
    let a = c.args in
    let t = a.taken in
    omega (arith, c.weights_size.ensures, weights-there t.file.now t.sizes.n t.sizes.m t.sizes.new_form t.taken)

pub weights_size-requires-2 : goal.weights_size-requires-2
weights_size-requires-2 c = let t = c.args.taken in (few t.file.now t.sizes.n t.sizes.m t.sizes.new_form t.taken).0

pub overflow_add-result : goal.overflow_add-result
overflow_add-result c =
    let t = c.args.taken in
    omega (
      arith,
      few t.file.now t.sizes.n t.sizes.m t.sizes.new_form t.taken,
      c.weights_size.ensures,
      c.weights_size-2.ensures,
      size-most c.args.wanted t.sizes.n,
      c.ranges.taken,
    )

pub returns : goal.returns
returns c =
    let a = c.args in
    let t = a.taken in
    omega (
      arith,
      c.weights_size.ensures,
      c.weights_size-2.ensures,
      converted-size t.file.now t.sizes.n t.sizes.m t.sizes.new_form t.taken t.bytes a.wanted,
    )
