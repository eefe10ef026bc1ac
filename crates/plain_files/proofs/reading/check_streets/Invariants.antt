use Prim.Native.Nat.{◌≤◌, ◌+◌, ◌*◌}
use Rattle.plain_files.proofs.reading.check_streets.Given as goal

abbrev pub invariant-loop-due : goal.invariant-loop-due
invariant-loop-due l = (l.due ≤ 300) × (l.at ≤ 740 + 260 * l.due)
