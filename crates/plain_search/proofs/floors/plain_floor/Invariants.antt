use Prim.Native.Nat.{◌≤◌, ◌*◌}
use mathlib.Core.Path.{◌≡◌}
use Rattle.plain_search.proofs.floors.plain_floor.Given as goal

abbrev pub invariant-loop-i : goal.invariant-loop-i
invariant-loop-i l = (l.i ≤ l.i-end) × (l.i-end ≡ l.town.k) × (l.i-end ≤ 5) × (l.t ≤ l.town.m) × (l.sum ≤ 600000 * l.i)
