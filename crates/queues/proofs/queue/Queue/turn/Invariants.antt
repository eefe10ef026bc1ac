use mathlib.Core.Path.{◌≡◌}
use mathlib.Core.List.{List}
use Prim.Native.Nat.{ℕ, ◌≤◌}
use lib.ListN.{length}
use Rattle.queues.specs.Limits.{Leaver, Limits}
use Rattle.queues.specs.PathBack.{Turning}
use Rattle.queues.proofs.queue.Queue.turn.Given as goal

abbrev pub invariant-loop-p : goal.invariant-loop-p
invariant-loop-p l = (l.p ≤ l.place) × Turning l.initial.division l.division l.s l.place l.self.sites l.self.streets l.self.nexts l.p
    × (length l.limits ≡ length l.initial.limits)
    × ((v : ℕ → ℕ → ℕ) (d : ℕ → ℕ) (shares : List ℕ) → Limits (Leaver v d shares l.initial.division) l.s l.initial.division l.initial.limits
    → Limits (Leaver v d shares l.initial.division) l.s l.division l.limits)

abbrev pub decreases-loop-p : goal.decreases-loop-p
decreases-loop-p l = l.p
