use Prim.Native.Nat.{◌≤◌}
use Rattle.std.specs.Prelude.{IfSome}
use Rattle.plain_search.proofs.rounds.best_site.Given as goal

abbrev pub invariant-loop-number : goal.invariant-loop-number
invariant-loop-number l = IfSome l.best (λ b. b.number ≤ 5)
