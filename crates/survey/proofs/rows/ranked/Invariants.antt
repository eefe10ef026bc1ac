use mathlib.Core.Path.{◌≡◌}
use mathlib.Core.List.{◌++◌}
use lib.ListN.{take, drop}
use Rattle.survey.specs.Rows.{ranked_part}
use Rattle.survey.proofs.rows.ranked.Given as goal

abbrev pub invariant-loop-i : goal.invariant-loop-i
invariant-loop-i l = ranked_part l.row ≡ take l.i l.row ++ ranked_part (drop l.i l.row)
