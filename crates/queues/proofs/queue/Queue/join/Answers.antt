use native.Mathlib.Omega.{arith}
use Rattle.counting.specs.Lists.{at}
use Rattle.queues.proofs.QueueGrowth.{grows, growing-more}
use Rattle.queues.proofs.ReadBounds.{joining}
use Rattle.queues.proofs.queue.Queue.join.Goals as goal

pub bounds-self-i : goal.bounds-self-i
bounds-self-i c =
    let p = c.requires in
    let j = joining c.args.i c.args.t p.fits p.placed p.i_lt_count (rw c.from.ensures at c.if-self-from.false) in
    omega (arith, j.few, p.i_lt_count.0)

pub overflow_cast-i : goal.overflow_cast-i
overflow_cast-i c =
    let p = c.requires in
    let j = joining c.args.i c.args.t p.fits p.placed p.i_lt_count (rw c.from.ensures at c.if-self-from.false) in
    omega (arith, j.few, p.i_lt_count.0)

pub push-requires : goal.push-requires
push-requires c =
    let p = c.requires in
    let j = joining c.args.i c.args.t p.fits p.placed p.i_lt_count (rw c.from.ensures at c.if-self-from.false) in
    (j.few, omega (arith, j.small, j.few-sites))

pub returns-then-tight-clause-by_index : goal.returns-then-tight-clause-by_index
returns-then-tight-clause-by_index c =
    let p = c.requires in
    let q = c.args.self.now in
    let r = c.push.new.self in
    let x = at c.args.division.now c.args.t in
    let new = rw c.from.ensures at c.if-self-from.false in
    let j = joining c.args.i c.args.t p.fits p.placed p.i_lt_count new in
    let here = rw c.from-y.ensures at (c.tight.ensures.0 c.if-tight.true) in
    let e = c.push.ensures in
    let sites = rw (← e.sites) at (grows q.sites q.count x (omega (arith, j.few))) in
    let streets = rw (← e.streets) at (grows q.streets q.count c.args.t (omega (arith, j.few))) in
    let nexts = rw (← e.nexts) at (grows q.nexts q.count c.args.i (omega (arith, j.few))) in
    λ s l h. rw (e.count, e.flags)
    (growing-more h l p.i_lt_count.1 j.small (omega (arith, j.small, j.few-sites)) new here r.sites r.streets r.nexts sites streets nexts)
