use native.Mathlib.Omega.{arith}
use Prim.Native.Nat.{◌+◌, ◌*◌}
use Rattle.counting.proofs.Parts.{part_length}
use Rattle.survey_file.proofs.Lengths.{size-most}
use Rattle.file_filling.proofs.FilledFronts.{sizes, few, filling-begin, record-fits, row_fits, filling-next}
use Rattle.file_filling.proofs.fill_rows.Goals as goal

pub weights_size-requires : goal.weights_size-requires
weights_size-requires c = let z = sizes c.args.taken.file.now c.args.taken.taken.ok in omega (arith, c.args.taken.taken.streets)

pub overflow_mul-from : goal.overflow_mul-from
overflow_mul-from c = omega (arith, few c.args.taken.taken)

pub overflow_add-from : goal.overflow_add-from
overflow_add-from c = omega (arith, few c.args.taken.taken)

pub overflow_add-from-2 : goal.overflow_add-from-2
overflow_add-from-2 c = omega (arith, few c.args.taken.taken, c.weights_size.ensures, size-most c.args.taken.sizes.new_form c.args.taken.sizes.n)

pub overflow_mul-low : goal.overflow_mul-low
overflow_mul-low c = omega (arith, row_fits c.args.taken.taken (omega arith) c.loop-s.invariant)

pub overflow_add-low : goal.overflow_add-low
overflow_add-low c = omega (arith, row_fits c.args.taken.taken (omega arith) c.loop-s.invariant)

pub loop-s-init : goal.loop-s-init
loop-s-init c = filling-begin c.args.taken.taken _ _ c.weights_size.ensures

pub slice_bounds-fill_row-end : goal.slice_bounds-fill_row-end
slice_bounds-fill_row-end c =
    let h = c.loop-s.invariant in
    omega (arith, row_fits c.args.taken.taken (omega arith) h, h.filled.size, c.requires)

pub fill_row-requires : goal.fill_row-requires
fill_row-requires c = record-fits c.args.taken.taken (omega arith) c.loop-s.invariant

pub bounds-taken-from : goal.bounds-taken-from
bounds-taken-from c = omega (arith, record-fits c.args.taken.taken (omega arith) c.loop-s.invariant)

pub loop-s-preserved : goal.loop-s-preserved
loop-s-preserved c =
    let l = c.loop-s in
    let h = l.invariant in
    let row = c.fill_row in
    let m = c.args.taken.sizes.m in
    let fits = row_fits c.args.taken.taken (omega arith) h in
    let size = part_length (l.s * m) (l.s * m + m) l.rows (omega (arith, h.filled.size, c.requires)) in
    let same = row.auto.row in
    filling-next c.args.taken.taken (omega arith) h row.new.row (omega (arith, h.filled.size)) (omega arith) (λ j k. row.ensures.done j (omega arith))
