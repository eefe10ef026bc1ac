use Prim.Native.Nat.{◌<◌}
use native.Mathlib.Omega.{arith}
use Rattle.counting.specs.Lists.{at}
use Rattle.loads.specs.Loads.{most_load}
use Rattle.loads.proofs.SiteSums.{summed-room, summed-more}
use Rattle.loads.proofs.Limits.{above-none}
use Rattle.loads.proofs.sum_sites.Goals as goal

pub loop-s-init : goal.loop-s-init
loop-s-init c = c.requires.zeros

pub overflow_add-sums : goal.overflow_add-sums
overflow_add-sums c =
    let l = c.loop-s in
    let a = c.args in
    let small : at a.division.now l.s < 256 = omega (arith, c.type_inv.division l.s) in
    let few = above-none a.loads.now c.requires.loads.2 in
    let room = summed-room (at a.loads.now) l.sums a.division.now l.s c.loop-s-test.true small l.invariant most_load few in
    rw c.from.ensures (omega (arith, few l.s, c.requires.loads, room))

pub loop-s-preserved : goal.loop-s-preserved
loop-s-preserved c =
    let l = c.loop-s in
    let a = c.args in
    let small : at a.division.now l.s < 256 = omega (arith, c.type_inv.division l.s) in
    rw c.from.ensures (summed-more (at a.loads.now) l.sums a.division.now l.s c.loop-s-test.true small l.invariant)
