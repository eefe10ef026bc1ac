use mathlib.Core.Path.{refl}
use Prim.Native.Nat.{◌+◌, ◌*◌}
use native.Mathlib.Omega.{arith}
use lib.ListN.{length}
use Rattle.counting.proofs.Parts.{part_length}
use Rattle.starts.proofs.FirstDivision.{row_ends, seen-some, seen-left, giving-none, giving-some, giving-more, giving-end}
use Rattle.starts.proofs.begin.Goals as goal

pub loop-s-init : goal.loop-s-init
loop-s-init c = (refl, giving-none _ c.copy_from_slice.ensures.after c.requires.shares_value.0)

pub best_left-requires : goal.best_left-requires
best_left-requires c =
    let w = length c.args.shares.now in
    let s = c.loop-s.s in
    let ends = row_ends s c.requires.problem (omega arith) in
    omega (arith, part_length (s * w) (s * w + w) c.args.values.now ends.0, c.loop-s.invariant.1.size)

pub unwrap-a-requires : goal.unwrap-a-requires
unwrap-a-requires c = seen-some _ _ c.best_left.ensures (giving-some c.requires.problem.nobody c.loop-s.invariant.1 (omega arith))

pub loop-s-preserved : goal.loop-s-preserved
loop-s-preserved c =
    let a = c.unwrap-a.result in
    let left = seen-left _ a c.best_left.ensures c.unwrap-a.ensures in
    (refl, giving-more c.requires.problem.nobody c.loop-s.invariant.1 a (omega arith) left)

pub returns : goal.returns
returns c = giving-end c.requires.problem.nobody c.loop-s.invariant.1 (omega arith)
