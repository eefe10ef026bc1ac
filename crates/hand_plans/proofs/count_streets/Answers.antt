use Prim.Native.Nat.{◌<◌}
use native.Mathlib.Omega.{arith}
use Rattle.counting.specs.Lists.{at}
use Rattle.loads.proofs.SiteSums.{summed-room, summed-more}
use Rattle.hand_plans.proofs.count_streets.Goals as goal

pub loop-site-init : goal.loop-site-init
loop-site-init c = c.requires

pub overflow_add-counts : goal.overflow_add-counts
overflow_add-counts c =
    let l = c.loop-site in
    let division = c.args.division.now in
    let small : at division l.site-index < 256 = omega (arith, c.type_inv.division l.site-index) in
    let room = summed-room (λ i. 1) l.counts division l.site-index c.loop-site-test.true small l.invariant 1 (λ i. omega arith) in
    rw c.from.ensures (omega (arith, room))

pub loop-site-preserved : goal.loop-site-preserved
loop-site-preserved c =
    let l = c.loop-site in
    let division = c.args.division.now in
    let small : at division l.site-index < 256 = omega (arith, c.type_inv.division l.site-index) in
    rw c.from.ensures (summed-more (λ i. 1) l.counts division l.site-index c.loop-site-test.true small l.invariant)
