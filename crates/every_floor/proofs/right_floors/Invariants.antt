use Prim.Native.Nat.{◌≤◌, ◌<◌, ◌+◌}
use Rattle.every_floor.proofs.right_floors.Given as goal

abbrev pub invariant-loop-k : goal.invariant-loop-k
invariant-loop-k l = (l.k ≤ l.m + 1) × (l.count < l.k)
