use native.Mathlib.Omega.{arith}
use Rattle.counting.proofs.Filling.{mapped-more}
use Rattle.file_filling.proofs.FilledFronts.{list_of}
use Rattle.file_filling.proofs.fill_row.Goals as goal

pub loop-j-preserved : goal.loop-j-preserved
loop-j-preserved c =
    let a = c.args in
    let l = c.loop-j in
    mapped-more _ _ l.row l.j _ (omega arith) l.invariant (list_of a.file.now a.from l.j _ c.entry.ensures)
