use Prim.Native.Nat.{◌+◌, ◌*◌, ◌-◌}
use Rattle.counting.specs.Bounds.{most_value}
use Rattle.counting.specs.Lists.{cell}
use Rattle.counting.specs.Buffers.{Mapped}
use Rattle.tables.proofs.keys.weigh_site.Given as goal

abbrev pub invariant-loop-s : goal.invariant-loop-s
invariant-loop-s l = Mapped (λ t x. (most_value - cell l.values (l.m + 1) t l.a) * (l.m + 2) + x) l.initial.keys l.keys l.s
