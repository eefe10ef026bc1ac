-- Moves of streets, one after another: what each does to the counts and to the total, and that a closed chain of moves keeps the shares.
-- Assumes nothing.
use mathlib.Core.Path.{◌≡◌}
use mathlib.Core.List.{List, [], ◌∷◌}
use Prim.Native.Nat.{ℕ, zero, suc, ◌+◌, ◌<◌}
use native.Mathlib.Nat.{le_of_suc-le-suc}
use native.Mathlib.Omega.{arith}
use lib.Dec.{eqb}
use lib.ListN.{length, set}
use Rattle.counting.specs.Words.{one}
use Rattle.counting.specs.Lists.{at, count}
use Rattle.division.specs.Prices.{Over}
use Rattle.division.specs.Shares.{InShares, division_total}
use Rattle.division.proofs.Counts.{count-total}

-- the move of street s to site b: the total loses what s gave its site, and gains what it gives b
pub division_total-set : (v : ℕ → ℕ → ℕ) (D : List ℕ) (s b : ℕ) → s < length D → division_total v (set D s b) + v s (at D s) ≡ division_total v D + v s b
unfolding division_total
division_total-set v [] s b l = absurd (omega arith)
division_total-set v (a ∷ D) zero b l = omega arith
division_total-set v (a ∷ D) (suc s) b l = omega (arith, division_total-set (λ s. v (suc s)) D s b (le_of_suc-le-suc l))

-- its site has one street less, and b one more
pub count_set : (D : List ℕ) (s b x : ℕ) → s < length D → count (set D s b) x + one (eqb (at D s) x) ≡ count D x + one (eqb b x)
count_set D s b x l = simp count-total (division_total-set (λ s a. one (eqb a x)) D s b l)

-- no street is too many where a is y: E is in the shares of D
pub over_done : (D E : List ℕ) (a : ℕ) → Over D E a a → (c : List ℕ) → InShares D c → InShares E c
over_done D E a o c i z = omega (arith, o z, i z)

module _ (D E : List ℕ) (a y t x : ℕ) (l : t < length E) where
  -- a street of the site y goes on to x
  pub over-on : Over D E a y → at E t ≡ y → Over D (set E t x) a x
  over-on o e z = omega (arith, o z, rw e at (count_set E t x z l))

  -- a tight move keeps the total, after prices
  pub over-total : (v : ℕ → ℕ → ℕ) (d : ℕ → ℕ) → at E t ≡ y → d y + v t x ≡ d x + v t y → division_total v E + d a ≡ division_total v D + d y
      → division_total v (set E t x) + d a ≡ division_total v D + d x
  over-total v d e m h = omega (arith, rw e at (division_total-set v E t x l))
