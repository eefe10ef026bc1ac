-- Laws of the search's loops: what they hold from turn to turn and at their ends.
-- Assumes nothing.
use mathlib.Core.Path.{◌≡◌, refl, ◌∙◌}
use mathlib.Core.List.{List, ◌++◌}
use Prim.Native.Nat.{ℕ, ◌+◌, ◌<◌}
use native.Mathlib.Numerals.{add-one}
use native.Mathlib.Omega.{arith}
use lib.ListN.{length, take, replicate, length-replicate, get_or-append}
use Rattle.counting.specs.Lists.{at}
use Rattle.pairs.proofs.Moves.{zeros_at}
use Rattle.division.specs.Shares.{division_total}
use Rattle.division.proofs.Counts.{division_total-suc}

-- the front of a list that was cleared holds 0
pub front-cleared : (front rest : List ℕ) (n : ℕ) → front ≡ replicate n 0 → (b : ℕ) → b < n → at (front ++ rest) b ≡ 0
front-cleared front rest n e b l =
    let long : length front ≡ n = rw e (length-replicate n 0) in
    get_or-append front rest 0 b (omega arith) ∙ zeros_at front n e b

-- before the first street the total is 0
pub sum-start : (v : ℕ → ℕ → ℕ) (D : List ℕ) → 0 ≡ division_total v (take 0 D)
unfolding division_total
sum-start v D = refl

-- one street more is added
pub sum-next : (v : ℕ → ℕ → ℕ) (D : List ℕ) (s t x : ℕ) → s < length D → t ≡ division_total v (take s D) → x ≡ v s (at D s)
    → t + x ≡ division_total v (take (s + 1) D)
sum-next v D s t x l e q = rw add-one (omega (arith, division_total-suc v D s l))
