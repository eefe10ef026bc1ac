use Prim.Native.Nat.{◌≤◌}
use Rattle.plain_search.proofs.scores.streets_of.Given as goal

abbrev pub invariant-loop-own : goal.invariant-loop-own
invariant-loop-own l = l.count ≤ l.own-index
