use Prim.Native.Nat.{◌≤◌, ◌*◌}
use Rattle.plain_search.proofs.scores.total.Given as goal

abbrev pub invariant-loop-s : goal.invariant-loop-s
invariant-loop-s l = l.sum ≤ 16711425 * l.s
