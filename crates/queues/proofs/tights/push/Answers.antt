use native.Mathlib.Omega.{arith}
use Rattle.queues.proofs.TightRows.{row_more, agree-set}
use Rattle.queues.proofs.tights.push.Goals as goal

pub returns : goal.returns
returns c =
    let p = c.requires in
    (row_more p.row (omega (arith, p.row.fits, p.t_in_bounds.2)), agree-set c.args.tights.now c.args.row _ _ (omega arith))
