-- A table's values never rise along a line of streets in the order of the rounds, nor, where all weights are the same, in the order by place.
-- Assumes nothing.
use mathlib.Core.Path.{◌≡◌}
use mathlib.Core.Bool.{true}
use mathlib.Core.List.{List}
use Prim.Native.Nat.{ℕ, ◌≤◌, ◌<◌}
use native.Mathlib.Omega.{arith}
use lib.ListN.{length}
use Rattle.counting.specs.Lists.{at}
use Rattle.counting.proofs.Sums.{has-at}
use Rattle.survey.specs.Town.{Town}
use Rattle.survey.specs.Rows.{Even, value}
use Rattle.survey.specs.Accepted.{Accepted}
use Rattle.tables.specs.RoundKeys.{row_key}
use Rattle.plans.proofs.Orders.{even_falls}
use Rattle.balanced_plan.specs.Rounds.{ordered}
use Rattle.balanced_plan.specs.Falling.{FallsBy}
use Rattle.balanced_plan.proofs.Ordered.{ordered-street, ordered-rising, rising-at}
use Rattle.balanced_rounds.specs.Lines.{Orders, Falls, Falling}

-- where all weights are the same, the values of a town's table fall with the places
pub table-falls : {t : Town} → Accepted t → Even t.weights → (v : ℕ → ℕ → ℕ) → ((s a : ℕ) → s < t.n → a ≤ t.m → v s a ≡ value t s a)
    → FallsBy (row_key t.m t.rows) v t.n t.m
table-falls ok even v same a s u l h k first =
    omega (arith, same s a (omega arith) l, same u a (omega arith) l, even_falls ok even a s u l (omega arith) (omega arith) first)

-- values that fall along the order of a key never rise along lines by it
pub lines-fall : (v key : ℕ → ℕ → ℕ) (n m : ℕ) (orders : List ℕ) → Orders key n m orders → FallsBy key v n m → Falling v n m orders
lines-fall v key n m orders o falls a l = rw (o a l) along
  where
    line : List ℕ
    line = ordered (key a) (λ s. true) n

    street : (i : ℕ) → i < length line → at line i < n
    street i h = (ordered-street (key a) (λ s. true) n (at line i) (has-at line i h)).0

    along : Falls (λ s. v s a) line
    along i j before h =
        falls a (at line i) (at line j) l (street i (omega arith)) (street j h)
        (rising-at (key a) line (ordered-rising (key a) (λ s. true) n) i j before h)
