use mathlib.Core.Path.{◌∙◌}
use native.Mathlib.Omega.{arith}
use Rattle.tables.proofs.Keyed.{keys_none, street-last, keys-more}
use Rattle.tables.proofs.keys.fill_keys.Goals as goal

pub loop-s-init : goal.loop-s-init
loop-s-init c =
    let p = c.requires in
    (keys_none c.args.town.rows.now p.ranked.few-streets p.ranked.few-sites p.keys_len (c.fill.ensures.after (λ y e. e)), c.fill.ensures.len ∙ p.keys_len)

pub fill_street-requires-clause-unread : goal.fill_street-requires-clause-unread
fill_street-requires-clause-unread c = street-last c.requires.ranked (omega arith) c.row.ensures c.loop-s.invariant.0

pub loop-s-preserved : goal.loop-s-preserved
loop-s-preserved c =
    let l = c.loop-s in
    let call = c.fill_street in
    (keys-more c.requires.ranked (omega arith) c.row.ensures l.invariant.0 call.new.keys call.auto.keys call.ensures, call.auto.keys ∙ l.invariant.1)
