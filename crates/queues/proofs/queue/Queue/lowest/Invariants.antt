use Prim.Native.Nat.{◌≤◌}
use Rattle.queues.specs.PathBack.{Lowest}
use Rattle.queues.specs.Priced.{value_of, price_of}
use Rattle.queues.proofs.queue.Queue.lowest.Given as goal

abbrev pub invariant-loop-i : goal.invariant-loop-i
invariant-loop-i l = (1 ≤ l.i) × (l.i ≤ l.self.count) × Lowest (value_of l.table) (price_of l.table) l.division l.s l.i l.self.sites l.best
