use mathlib.Core.Path.{◌≡◌}
use Prim.Native.Nat.{◌≤◌}
use lib.ListN.{length}
use Rattle.queues.specs.Limits.{Leaver}
use Rattle.queues.specs.Priced.{value_of, price_of}
use Rattle.queues.proofs.LeaveLimits.{Falling}
use Rattle.queues.proofs.limits.lower.Given as goal

abbrev pub invariant-loop-e : goal.invariant-loop-e
invariant-loop-e l = (l.limits ≡ l.initial.limits) × (l.e ≤ length l.division)
    × Falling (Leaver (value_of l.table) (price_of l.table) l.table.shares.now l.division) l.s l.division l.initial.limits l.x l.e

abbrev pub decreases-loop-e : goal.decreases-loop-e
decreases-loop-e l = l.e
