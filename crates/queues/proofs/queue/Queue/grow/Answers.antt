use native.Mathlib.Omega.{arith}
use Rattle.queues.proofs.QueueGrowth.{placed-fits, grown-start}
use Rattle.queues.proofs.queue.Queue.grow.Goals as goal

pub loop-i-init : goal.loop-i-init
loop-i-init c =
    let e = c.start.ensures in
    (omega arith, rw e.count (grown-start _ _ _ _ e.site (e.placed _ (c.requires.fits.sited _ c.requires.s_in_bounds))))

pub overflow_add-i : goal.overflow_add-i
overflow_add-i c = omega (arith, placed-fits c.scan.ensures.grown_2.placed, c.requires.fits.few-sites, c.scan.ensures.lower_bound)

pub loop-i-smaller : goal.loop-i-smaller
loop-i-smaller c = omega (arith, placed-fits c.loop-i.invariant.1.placed)
