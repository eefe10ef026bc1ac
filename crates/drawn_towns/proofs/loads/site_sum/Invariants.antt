use Prim.Native.Nat.{◌≤◌, ◌*◌}
use Rattle.drawn_towns.proofs.loads.site_sum.Given as goal

abbrev pub invariant-loop-s : goal.invariant-loop-s
invariant-loop-s l = l.sum ≤ 4294967295 * l.s
