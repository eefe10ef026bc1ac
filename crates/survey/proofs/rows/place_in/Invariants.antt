use mathlib.Core.Path.{◌≡◌}
use Rattle.counting.specs.Words.{first_nonzero}
use Rattle.survey.specs.Rows.{place_at}
use Rattle.survey.proofs.rows.place_in.Given as goal

abbrev pub invariant-loop-i : goal.invariant-loop-i
invariant-loop-i l = first_nonzero l.i (place_at l.list l.site) ≡ 0
