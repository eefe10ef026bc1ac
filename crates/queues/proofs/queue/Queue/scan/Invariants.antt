use mathlib.Core.Path.{◌≡◌}
use Prim.Native.Nat.{◌+◌, ◌≤◌}
use Rattle.counting.specs.Lists.{at}
use Rattle.queues.specs.Places.{GrowingTo}
use Rattle.queues.proofs.queue.Queue.scan.Given as goal

abbrev pub invariant-loop-t : goal.invariant-loop-t
invariant-loop-t l = (l.j ≤ at l.rows.ends l.y) × (l.t ≡ at l.rows.tights (l.row + l.j)) × (at l.self.sites l.i ≡ l.y)
    × GrowingTo l.table l.division l.s l.self l.i (l.t + 1)

abbrev pub decreases-loop-t : goal.decreases-loop-t
decreases-loop-t l = l.j
