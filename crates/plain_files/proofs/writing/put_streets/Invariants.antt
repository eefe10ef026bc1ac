use Prim.Native.Nat.{◌≤◌, ◌+◌, ◌*◌}
use mathlib.Core.Path.{◌≡◌}
use Rattle.plain_files.proofs.writing.put_streets.Given as goal

abbrev pub invariant-loop-s : goal.invariant-loop-s
invariant-loop-s l = (l.s ≤ l.s-end) × (l.s-end ≡ l.town.n) × (l.next ≤ 29 + 10 * l.s)
