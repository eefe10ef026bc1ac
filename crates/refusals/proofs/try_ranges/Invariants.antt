use mathlib.Core.Path.{◌≡◌}
use Rattle.counting.specs.Words.{first_nonzero}
use Rattle.counting.specs.Lists.{at}
use Rattle.refusals.specs.Refusals.{range_refusal}
use Rattle.refusals.proofs.try_ranges.Given as goal

abbrev pub invariant-loop-site : goal.invariant-loop-site
invariant-loop-site l = first_nonzero l.site-index (λ i. range_refusal l.low l.m (at l.sites i)) ≡ 0
