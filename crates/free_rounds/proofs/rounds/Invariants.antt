use mathlib.Core.Path.{◌≡◌}
use Prim.Native.Nat.{◌+◌}
use lib.ListN.{length}
use Rattle.free_plan.specs.Greedy.{greedy}
use Rattle.free_rounds.specs.Held.{Held, Bounds, sites_of}
use Rattle.free_rounds.specs.Scored.{scored, counted}
use Rattle.free_rounds.proofs.rounds.Given as goal

abbrev pub invariant-loop-i : goal.invariant-loop-i
invariant-loop-i l = let t = l.table in
    (l.state.count ≡ length l.sites + l._i) × (sites_of l.state ≡ greedy (counted t) t.n t.m l._i l.sites) × Held (scored t) t.n l.state
    × Bounds (counted t) t.n l.state
