use Rattle.counting.specs.Lists.{at}
use lib.ListN.{length}
use mathlib.Core.Path.{◌≡◌}
use Prim.Native.Nat.{◌≤◌}
use Rattle.chains.specs.Chains.{Raised}
use Rattle.chains.proofs.steps.highest.Given as goal

abbrev pub invariant-loop-b : goal.invariant-loop-b
invariant-loop-b l = (l.b ≤ l.b-end) × (l.b-end ≡ length l.prices) × Raised (at l.via) l.n (length l.prices) l.b l.top
