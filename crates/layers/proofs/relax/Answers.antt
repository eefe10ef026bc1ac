use native.Mathlib.Omega.{arith}
use Prim.Native.Nat.{◌+◌, ◌*◌}
use lib.ListN.{length, length-set}
use Rattle.counting.proofs.Parts.{part_at}
use Rattle.layers.proofs.Relaxation.{fitting-same, gains-some}
use Rattle.layers.proofs.Relaxation.{lift-more, relaxing-more, relaxing-end}
use Rattle.layers.proofs.relax.Goals as goal

pub loop-b-preserved : goal.loop-b-preserved
loop-b-preserved c =
    let a = c.args in
    let p = c.requires in
    let l = c.loop-b in
    let w = length a.before.now in
    let from = a.a * w in
    let m = a.moves.now in
    let less = p.a_in_bounds.0 in
    let row = p.tables.paired a.a less in
    let ends = l.invariant.2.ends in
    let gain = part_at from (from + w) m.gains (omega (arith, ends)) l.b (omega arith) in
    let pair = part_at from (from + w) m.pairs (omega (arith, ends)) l.b (omega arith) in
    let some = gains-some m.gains m.pairs less row (λ s b. p.layerable.small _) p.a_in_bounds.1 l.b (omega arith) in
    let old = l.invariant.3.rest l.b (omega arith) (omega arith) in
    let more = lift-more (row l.b (omega arith)) some (rw (gain, pair) at c.take-taken.ensures) old in
    let next = relaxing-more l.after l.via (omega arith) (omega arith) l.invariant.3 more in
    (omega arith, fitting-same l.invariant.1 (simp length-set) (simp length-set), l.invariant.2, next)

pub returns : goal.returns
returns c = let l = c.loop-b in relaxing-end (omega arith) l.invariant.3
