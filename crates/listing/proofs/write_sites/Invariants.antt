use Rattle.counting.specs.Lists.{at}
use Rattle.counting.specs.Buffers.{joined, Written}
use Rattle.listing.specs.Listing.{spaced}
use Rattle.listing.proofs.write_sites.Given as goal

abbrev pub invariant-loop-site : goal.invariant-loop-site
invariant-loop-site l = Written l.initial.out l.i (joined l.site-index (λ k. spaced (at l.sites k))) l.out l.next
