use Rattle.counting.specs.Bounds.{most_width}
use Rattle.compact.proofs.SiteNumbers.{Kept}
use Rattle.compact.proofs.numbers.Numbering.of.Given as goal

abbrev pub invariant-loop-a : goal.invariant-loop-a
invariant-loop-a l = Kept l.shares most_width most_width most_width l.sites l.numbers l.few l.a l.count
