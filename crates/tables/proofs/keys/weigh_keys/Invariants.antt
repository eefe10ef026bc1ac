use Prim.Native.Nat.{◌+◌, ◌*◌, ◌-◌}
use Rattle.counting.specs.Bounds.{most_value}
use Rattle.counting.specs.Lists.{cell}
use Rattle.tables.proofs.Weighed.{Weighed}
use Rattle.tables.proofs.keys.weigh_keys.Given as goal

abbrev pub invariant-loop-a : goal.invariant-loop-a
invariant-loop-a l = Weighed (λ b s x. (most_value - cell l.values (l.m + 1) s b) * (l.m + 2) + x) l.n l.initial.keys l.keys l.a
