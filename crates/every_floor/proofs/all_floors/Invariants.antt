use Prim.Native.Nat.{◌≤◌, ◌*◌, ◌+◌}
use Rattle.every_floor.proofs.all_floors.Given as goal

abbrev pub invariant-loop-m : goal.invariant-loop-m
invariant-loop-m l = (l.m ≤ 65) × (l.count + 64 ≤ l.m * 64)
