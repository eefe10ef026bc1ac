use native.Mathlib.Omega.{arith}
use lib.ListN.{length}
use Rattle.counting.proofs.Tables.{row_within}
use Rattle.counting.proofs.Laying.{turns-none, turns-room, turns_more}
use Rattle.listing.specs.Listing.{street_line}
use Rattle.listing.proofs.write_streets.Goals as goal

pub loop-s-init : goal.loop-s-init
loop-s-init c = turns-none c.args.out.now c.args.i _ (omega (arith, c.requires.division_in_bounds))

pub write_street-next-requires : goal.write_street-next-requires
write_street-next-requires c =
    let l = c.loop-s in
    let a = c.args in
    let p = c.requires in
    let n = length a.division.now in
    record {
      s_in_bounds = (omega arith, omega (arith, row_within n a.town.m l.s (omega arith), p.m_in_bounds));
      s_in_bounds_2 = turns-room (street_line a.town.m a.town.rows.now a.division.now) l.invariant n (omega arith) p.division_in_bounds;
    }

pub loop-s-preserved : goal.loop-s-preserved
loop-s-preserved c = turns_more _ c.loop-s.invariant c.write_street-next.ensures
