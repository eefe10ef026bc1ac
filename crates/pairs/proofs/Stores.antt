-- Laws of two lists that are filled from the front together, one store into each in a turn.
-- Assumes nothing.
use mathlib.Core.Logic.{◌≢◌}
use mathlib.Core.List.{List}
use Prim.Native.Nat.{ℕ, ◌+◌, ◌≤◌, ◌<◌}
use native.Mathlib.Omega.{arith}
use borrow.Author.Count.{below_more}
use lib.ListN.{length, set}
use lib.Seq.{get_or-set_same, get_or-set_other}
use Rattle.counting.specs.Lists.{at}

module _ (P : ℕ → ℕ → ℕ → Type 0) (xs ys : List ℕ) (i x y : ℕ) where
  -- at another index than the stores' nothing changes
  stored_other : (k : ℕ) → k ≢ i → P k (at xs k) (at ys k) → P k (at (set xs i x) k) (at (set ys i y) k)
  stored_other k d h = rw (get_or-set_other xs i k x 0 d, get_or-set_other ys i k y 0 d) h

  -- what holds below an index and of the two numbers stored there holds below the next
  pub stored : i < length xs → i < length ys → ((k : ℕ) → k < i → P k (at xs k) (at ys k)) → P i x y
      → (k : ℕ) → k < i + 1 → P k (at (set xs i x) k) (at (set ys i y) k)
  stored lx ly h new =
      below_more (λ k. P k (at (set xs i x) k) (at (set ys i y) k)) i (λ k l. stored_other k (λ e. omega arith) (h k l))
      (rw (get_or-set_same xs i x 0 lx, get_or-set_same ys i y 0 ly) new)

  -- what holds from an index on holds behind it after the stores
  pub unstored : (w : ℕ) → ((k : ℕ) → i ≤ k → k < w → P k (at xs k) (at ys k))
      → (k : ℕ) → i + 1 ≤ k → k < w → P k (at (set xs i x) k) (at (set ys i y) k)
  unstored w h k l m = stored_other k (λ e. omega arith) (h k (omega arith) m)
