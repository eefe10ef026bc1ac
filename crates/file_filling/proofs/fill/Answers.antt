use native.Mathlib.Omega.{arith}
use Rattle.file_filling.proofs.FilledFronts.{sizes, few, weights-room, rows-laid, scores-laid, weights-laid}
use Rattle.file_filling.proofs.fill.Goals as goal

pub overflow_mul-m : goal.overflow_mul-m
overflow_mul-m c = omega (arith, few c.args.taken.taken)

pub overflow_add-m : goal.overflow_add-m
overflow_add-m c = omega (arith, few c.args.taken.taken)

pub fill_scores-requires : goal.fill_scores-requires
fill_scores-requires c =
    let known = c.args.taken.taken in
    let z = sizes c.args.taken.file.now known.ok in
    (omega arith, omega arith)

pub fill_weights-requires : goal.fill_weights-requires
fill_weights-requires c =
    let known = c.args.taken.taken in
    let z = sizes c.args.taken.file.now known.ok in
    (weights-room known, omega arith)

pub returns : goal.returns
returns c =
    let known = c.args.taken.taken in
    let p = c.requires in
    record {
      rows = rows-laid known p.0 c.fill_rows.ensures;
      scores = scores-laid known p.1 c.fill_scores.ensures;
      weights = weights-laid known p.2 c.fill_weights.ensures;
    }
