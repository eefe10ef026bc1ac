use mathlib.Core.Path.{◌≡◌}
use lib.ListN.{length}
use Rattle.starts.proofs.FirstDivision.{Giving}
use Rattle.starts.proofs.begin.Given as goal

abbrev pub invariant-loop-s : goal.invariant-loop-s
invariant-loop-s l = (l.w ≡ length l.shares) × Giving l.shares l.left l.division (length l.initial.division) l.s
