use mathlib.Core.Logic.{◌≢◌}
use Prim.Native.Nat.{ℕ, ◌<◌}
use Rattle.counting.specs.Lists.{at}
use Rattle.division.specs.Prices.{Tight}
use Rattle.queues.specs.Priced.{value_of, price_of}
use Rattle.queues.proofs.price_table.PriceTable.leaves.Given as goal

abbrev pub invariant-loop-y : goal.invariant-loop-y
invariant-loop-y l = (x : ℕ) → x < l.y → 0 < at l.self.shares.now x → x ≢ at l.division l.t → Tight (value_of l.self) (price_of l.self) l.division l.t x → ⊥
