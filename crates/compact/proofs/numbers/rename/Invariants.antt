use Rattle.counting.specs.Lists.{at}
use Rattle.counting.specs.Buffers.{Mapped}
use Rattle.compact.proofs.numbers.rename.Given as goal

abbrev pub invariant-loop-site : goal.invariant-loop-site
invariant-loop-site l = Mapped (λ i x. at l.names x) l.initial.division l.division l.site-index
