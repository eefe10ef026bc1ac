use Rattle.counting.specs.Buffers.{joined, Written}
use Rattle.listing.specs.Listing.{street_line}
use Rattle.listing.proofs.write_streets.Given as goal

abbrev pub invariant-loop-s : goal.invariant-loop-s
invariant-loop-s l = Written l.initial.out l.i (joined l.s (street_line l.fn.town.m l.fn.town.rows.now l.division)) l.out l.next
