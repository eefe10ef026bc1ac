use mathlib.Core.Path.{sym}
use native.Mathlib.Omega.{arith}
use Rattle.survey.proofs.Places.{score-next}
use Rattle.tables.proofs.Filling.{passed_none, passed-more}
use Rattle.tables.proofs.by_site.fill_street.Goals as goal

pub loop-j-init : goal.loop-j-init
loop-j-init c = passed_none _ _ _ _ c.requires.blank

pub loop-j-preserved : goal.loop-j-preserved
loop-j-preserved c =
    let p = c.requires in
    let l = c.loop-j in
    passed-more p.sound.0 p.room l.invariant c.from.ensures (sym (score-next c.args.scores.now l.j)) (omega arith) c.if-site-eq0.false
