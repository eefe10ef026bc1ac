use mathlib.Core.Path.{◌≡◌}
use Prim.Native.Nat.{◌*◌, ◌≤◌}
use lib.ListN.{take}
use Rattle.counting.specs.Bounds.{most_value}
use Rattle.pairs.specs.BestMoves.{value_of}
use Rattle.division.specs.Shares.{division_total}
use Rattle.chains.proofs.steps.sum.Given as goal

abbrev pub invariant-loop-s : goal.invariant-loop-s
invariant-loop-s l = (l.total ≡ division_total (value_of l.problem) (take l.s l.division)) × (l.total ≤ most_value * l.s)
