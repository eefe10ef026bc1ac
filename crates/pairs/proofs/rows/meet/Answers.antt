use mathlib.Core.Path.{refl}
use native.Mathlib.Omega.{arith}
use lib.ListN.{length-set}
use Rattle.pairs.proofs.Moves.{pair-more, meeting-more}
use Rattle.pairs.proofs.rows.meet.Goals as goal

pub loop-b-preserved : goal.loop-b-preserved
loop-b-preserved c =
    let p = c.requires in
    let l = c.loop-b in
    let i = l.invariant in
    let old = i.5.rest l.b (omega arith) (omega arith) in
    let more = pair-more p.s_in_bounds.0 p.s_in_bounds.2 (p.fits.small _) (p.fits.small _) c.better-best.ensures old in
    let next = meeting-more l.gains l.pairs (omega arith) (omega arith) i.5 more in
    (omega arith, refl, simp length-set i.2, simp length-set i.3, i.4, next)
