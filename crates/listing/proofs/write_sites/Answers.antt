use native.Mathlib.Omega.{arith}
use lib.ListN.{length}
use Rattle.counting.specs.Lists.{at}
use Rattle.counting.proofs.Laying.{turns-none, turns-room, turns_more}
use Rattle.listing.specs.Listing.{spaced}
use Rattle.listing.proofs.write_sites.Goals as goal

pub loop-site-init : goal.loop-site-init
loop-site-init c = turns-none c.args.out.now c.args.i _ (omega (arith, c.requires))

pub write_spaced-next-requires : goal.write_spaced-next-requires
write_spaced-next-requires c =
    let sites = c.args.sites.now in
    turns-room (λ k. spaced (at sites k)) c.loop-site.invariant (length sites) (omega arith) c.requires

pub loop-site-preserved : goal.loop-site-preserved
loop-site-preserved c = turns_more _ c.loop-site.invariant c.write_spaced-next.ensures
