use mathlib.Core.Path.{◌≡◌}
use Prim.Native.Nat.{ℕ, ◌≤◌}
use lib.ListN.{take}
use Rattle.counting.specs.Bounds.{most_value}
use Rattle.free_rounds.specs.Held.{Held, Bounds, sites_of}
use Rattle.free_rounds.specs.Scored.{scored}
use Rattle.free_rounds.proofs.taken.Given as goal

abbrev pub invariant-loop-site : goal.invariant-loop-site
invariant-loop-site l =
    (l.state.count ≡ l.site-index) × (sites_of l.state ≡ take l.site-index l.sites) × Held (scored l.table) l.table.n l.state
    × ((v : ℕ → ℕ → ℕ) → ((s a : ℕ) → v s a ≤ most_value) → Bounds v l.table.n l.state)
