use native.Mathlib.Omega.{arith}
use mathlib.Core.List.{[], ◌∷◌}
use Prim.Native.Nat.{◌+◌, ◌≤◌}
use lib.ListN.{length}
use Rattle.counting.specs.Lists.{at}
use Rattle.counting.proofs.Laying.{written_byte, turns-none, turns-room, turns_more, list-room, list_written}
use Rattle.byte_writer.proofs.write_list.Goals as goal

pub loop-byte-init : goal.loop-byte-init
loop-byte-init c = let a = c.args in turns-none a.out.now a.i _ (omega arith)

pub bounds-out-next : goal.bounds-out-next
bounds-out-next c =
    let room : c.loop-byte.next + 1 ≤ length c.loop-byte.out = let a = c.args in
    let l = c.loop-byte in
    let all = list-room a.list.now a.out.now a.i c.requires in
    turns-room (λ k. at a.list.now k ∷ []) l.invariant (length a.list.now) (omega arith) all in
    let r = room in omega arith

pub loop-byte-preserved : goal.loop-byte-preserved
loop-byte-preserved c =
    let room : c.loop-byte.next + 1 ≤ length c.loop-byte.out = let a = c.args in
    let l = c.loop-byte in
    let all = list-room a.list.now a.out.now a.i c.requires in
    turns-room (λ k. at a.list.now k ∷ []) l.invariant (length a.list.now) (omega arith) all in
    let l = c.loop-byte in
    let r = room in
    turns_more _ l.invariant (written_byte l.out l.next _ (omega arith))

pub returns : goal.returns
returns c = let a = c.args in list_written a.list.now (omega arith) (omega arith) c.loop-byte.invariant
