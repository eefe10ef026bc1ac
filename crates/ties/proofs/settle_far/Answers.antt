use native.Mathlib.Omega.{arith}
use Rattle.queues.proofs.QueueGrowth.{placed-fits}
use Rattle.queues.proofs.PathBack.{path-back}
use Rattle.ties.proofs.PassSteps.{priced-table, rowed, pass-turned}
use Rattle.ties.proofs.settle_far.Goals as goal

pub grow-requires : goal.grow-requires
grow-requires c = let p = c.requires in record { fits = priced-table p.pass; s_in_bounds = p.s_in_bounds; rows = rowed p.pass }

pub lowest-place-requires : goal.lowest-place-requires
lowest-place-requires c =
    let p = c.requires in
    let g = c.grow.ensures in
    let table = priced-table p.pass in
    record {
      fits = table;
      s_in_bounds = (p.s_in_bounds, g.some, omega (arith, placed-fits g.placed, table.few-sites), g.queue.start);
      by_index = g.placed.within;
    }

pub turn-requires : goal.turn-requires
turn-requires c =
    let p = c.requires in
    let g = c.grow.ensures in
    let within = c.lowest-place.ensures.within in
    record {
      s_in_bounds = (p.s_in_bounds, omega (arith, placed-fits g.placed, (priced-table p.pass).few-sites, within));
      differ = path-back c.lowest-place.result within g;
      division_len_bound = (p.pass.problem.few, λ j m. omega (arith, g.placed.within j (omega (arith, within)), p.pass.fits));
    }

pub returns : goal.returns
returns c =
    let p = c.requires in
    let turn = c.turn.ensures in
    pass-turned p.pass p.s_in_bounds c.grow.ensures c.lowest-place.ensures turn.turned _ c.turn.auto.limits
    (turn.by_index _ _ c.args.table.now.shares.now p.pass.limited)
