use mathlib.Core.Path.{◌≡◌}
use lib.ListN.{take}
use Rattle.counting.specs.Lists.{at, has}
use Rattle.counting.specs.Words.{◌when◌, first_nonzero}
use Rattle.counting.specs.Flags.{Flags}
use Rattle.refusals.proofs.try_twice.Given as goal

abbrev pub invariant-loop-site : goal.invariant-loop-site
invariant-loop-site l = (first_nonzero l.site-index (λ i. 20 when has (at l.sites i) (take i l.sites)) ≡ 0) × Flags l.seen (take l.site-index l.sites)
