use native.Mathlib.Omega.{arith}
use Rattle.tables.proofs.Filling.{passed_none, passed-more}
use Rattle.tables.proofs.Keyed.{key-next}
use Rattle.tables.proofs.keys.fill_street.Goals as goal

pub loop-j-init : goal.loop-j-init
loop-j-init c = passed_none _ _ _ _ c.requires.unread

pub loop-j-preserved : goal.loop-j-preserved
loop-j-preserved c =
    let p = c.requires in
    let l = c.loop-j in
    passed-more p.sound_row p.room l.invariant c.from.ensures (key-next _ l.j) (omega arith) c.if-site-eq0.false
