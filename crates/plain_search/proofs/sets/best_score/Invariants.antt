use Prim.Native.Nat.{◌≤◌}
use Rattle.plain_search.proofs.sets.best_score.Given as goal

abbrev pub invariant-loop-number : goal.invariant-loop-number
invariant-loop-number l = l.best ≤ 16711425
