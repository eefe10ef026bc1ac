use mathlib.Core.Path.{◌≡◌}
use Rattle.survey_check.specs.Bits.{ranked_count}
use Rattle.survey_check.proofs.quick.ranked_count.Given as goal

abbrev pub invariant-loop-site : goal.invariant-loop-site
invariant-loop-site l = l.count ≡ ranked_count l.row l.site-index
