use mathlib.Core.Path.{◌≡◌}
use Prim.Native.Nat.{◌+◌, ◌≤◌}
use lib.ListN.{length}
use Rattle.counting.specs.Bounds.{most_width}
use Rattle.rings.proofs.WalkBack.{Walking}
use Rattle.rings.proofs.Walk.back.Given as goal

abbrev pub invariant-loop-l : goal.invariant-loop-l
invariant-loop-l l = (l.l ≤ l.k) × (length l.self.streets ≡ most_width) × (length l.self.sites ≡ most_width + 1)
    × Walking l.vias l.division l.w l.k l.l l.l l.self.streets l.self.sites
