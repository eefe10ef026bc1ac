use mathlib.Core.Path.{◌≡◌}
use Prim.Native.Nat.{◌≤◌}
use lib.ListN.{length}
use Rattle.counting.specs.Lists.{at}
use Rattle.pairs.specs.BestMoves.{value_of}
use Rattle.pairs.specs.Moves.{Meeting}
use Rattle.pairs.proofs.TableRows.{RowIn}
use Rattle.pairs.proofs.rows.meet.Given as goal

abbrev pub invariant-loop-b : goal.invariant-loop-b
invariant-loop-b l = (l.b ≤ l.w) × (l.w ≡ length l.problem.shares.now) × (length l.pairs ≡ l.w) × (length l.gains ≡ l.w)
    × RowIn l.s l.w (length l.problem.values.now)
    × Meeting (value_of l.problem) (at l.division) l.a l.s (length l.division) l.w l.b (at l.gains) (at l.pairs)
