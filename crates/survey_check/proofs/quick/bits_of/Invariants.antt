use mathlib.Core.Path.{◌≡◌}
use Rattle.survey_check.specs.Bits.{bits_of}
use Rattle.survey_check.proofs.quick.bits_of.Given as goal

abbrev pub invariant-loop-site : goal.invariant-loop-site
invariant-loop-site l = l.all ≡ bits_of l.bits l.list l.site-index
