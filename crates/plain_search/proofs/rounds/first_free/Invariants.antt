use Prim.Native.Nat.{◌≤◌}
use Rattle.std.specs.Prelude.{IfSome}
use Rattle.plain_search.proofs.rounds.first_free.Given as goal

abbrev pub invariant-loop-s : goal.invariant-loop-s
invariant-loop-s l = IfSome l.first (λ f. f.street ≤ 7)
