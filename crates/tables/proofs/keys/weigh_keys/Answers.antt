use native.Mathlib.Omega.{arith}
use Rattle.tables.proofs.Weighed.{weighed-more}
use Rattle.tables.proofs.keys.weigh_keys.Goals as goal

pub loop-a-preserved : goal.loop-a-preserved
loop-a-preserved c =
    let a = c.args in
    let p = c.requires in
    let l = c.loop-a in
    weighed-more a.m p.keys_len l.invariant (omega arith) _ c.weigh_site.ensures
