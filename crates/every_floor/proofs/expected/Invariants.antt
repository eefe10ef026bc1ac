use Prim.Native.Nat.{◌≤◌, ◌*◌}
use Rattle.every_floor.proofs.expected.Given as goal

abbrev pub invariant-loop-i : goal.invariant-loop-i
invariant-loop-i l = (l.i ≤ l.k) × (l.k ≤ l.m) × (l.m ≤ 64) × (l.sum ≤ l.i * 65535)
