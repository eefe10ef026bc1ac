use native.Mathlib.Omega.{arith}
use Rattle.compact.proofs.SmallTable.{columns-more}
use borrow.Author.Rules.{rules}
use Rattle.compact.proofs.columns.fill.Goals as goal

pub loop-s-preserved : goal.loop-s-preserved
loop-s-preserved c =
    let h = c.loop-s.invariant in
    let p = c.requires in
    let call = c.fill_row in
    let more =
    columns-more h.2 _ (omega arith) p.values_len.0 h.1 p.k_in_bounds.0 p.k_in_bounds.1 p.by_index.0 call.new.row call.auto.row
    call.ensures
    in
    (search rules, more.0, more.1)
