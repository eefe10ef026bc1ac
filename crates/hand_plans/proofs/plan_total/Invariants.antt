use mathlib.Core.Path.{◌≡◌}
use Prim.Native.Nat.{◌≤◌, ◌*◌}
use lib.ListN.{take}
use Rattle.counting.specs.Bounds.{most_value}
use Rattle.survey.specs.Town.{lent}
use Rattle.survey.specs.Rows.{value}
use Rattle.division.specs.Shares.{division_total}
use Rattle.hand_plans.proofs.plan_total.Given as goal

abbrev pub invariant-loop-s : goal.invariant-loop-s
invariant-loop-s l = (l.total ≡ division_total (value (lent l.fn.town.town)) (take l.s l.division)) × (l.total ≤ l.s * most_value)
