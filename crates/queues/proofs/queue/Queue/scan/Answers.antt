use mathlib.Core.Path.{◌∙◌}
use native.Mathlib.Omega.{arith}
use Rattle.queues.proofs.QueueGrowth.{placed-fits, growing-done}
use Rattle.queues.proofs.TightRows.{row-some, growing-first, growing-next}
use Rattle.queues.proofs.ReadBounds.{walk}
use Rattle.queues.proofs.queue.Queue.scan.Goals as goal

pub bounds-self-i : goal.bounds-self-i
bounds-self-i c = omega (arith, placed-fits c.requires.grown.placed, c.requires.fits.few-sites, c.requires.i_lt_count.0)

pub bounds-rows-row : goal.bounds-rows-row
bounds-rows-row c =
    let p = c.requires in
    let rows = c.args.rows.now in
    let w = walk c.args.i c.from-y.result rows.tights rows.ends p.fits p.i_lt_count p.rows p.grown c.from-y.ensures in
    w.fits c.from-j.result (omega (arith, c.from-j.ensures))

pub loop-t-init : goal.loop-t-init
loop-t-init c =
    let p = c.requires in
    let rows = c.args.rows.now in
    let w = walk c.args.i c.from-y.result rows.tights rows.ends p.fits p.i_lt_count p.rows p.grown c.from-y.ensures in
    (omega (arith, c.from-j.ensures), c.from-t.ensures, w.here, rw (c.from-t.ensures, c.from-j.ensures) (growing-first w.row w.here p.grown p.i_lt_count.0))

pub join-requires : goal.join-requires
join-requires c =
    let p = c.requires in
    let rows = c.args.rows.now in
    let i = c.loop-t.invariant in
    let w = walk c.args.i c.from-y.result rows.tights rows.ends p.fits p.i_lt_count p.rows p.grown c.from-y.ensures in
    let street = w.row.street c.loop-t.j i.0 (omega (arith, i.1)) in
    record { fits = p.fits; placed = i.3.grown.placed; i_lt_count = (i.3.place, omega (arith, i.1)) }

pub overflow_sub-j : goal.overflow_sub-j
overflow_sub-j c =
    let p = c.requires in
    let rows = c.args.rows.now in
    let w = walk c.args.i c.from-y.result rows.tights rows.ends p.fits p.i_lt_count p.rows p.grown c.from-y.ensures in
    omega (arith, row-some w.row c.loop-t.j (omega (arith, c.loop-t.invariant.1)))

pub loop-t-smaller : goal.loop-t-smaller
loop-t-smaller c =
    let p = c.requires in
    let rows = c.args.rows.now in
    let w = walk c.args.i c.from-y.result rows.tights rows.ends p.fits p.i_lt_count p.rows p.grown c.from-y.ensures in
    omega (arith, row-some w.row c.loop-t.j (omega (arith, c.loop-t.invariant.1)))

pub loop-t-preserved : goal.loop-t-preserved
loop-t-preserved c =
    let p = c.requires in
    let rows = c.args.rows.now in
    let l = c.loop-t in
    let i = l.invariant in
    let w = walk c.args.i c.from-y.result rows.tights rows.ends p.fits p.i_lt_count p.rows p.grown c.from-y.ensures in
    let below = row-some w.row l.j (omega (arith, i.1)) in
    let here = c.join.ensures.agree _ i.3.place ∙ i.2 in
    let grown = c.join.ensures.by_index _ c.loop-t-test.true i.3 in
    (omega (arith, i.0), c.from-t-in-loop-t.ensures, here, rw c.from-t-in-loop-t.ensures (growing-next w.row here l.j below i.0 i.1 grown))

pub returns-clause-grown_2 : goal.returns-clause-grown_2
returns-clause-grown_2 c = growing-done c.loop-t.invariant.3 (omega arith)
