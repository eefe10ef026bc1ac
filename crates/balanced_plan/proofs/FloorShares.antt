-- The rounds' shares leave a crowd of free streets in each round, which is what the floor needs of them.
-- Assumes nothing.
use mathlib.Core.Path.{◌≡◌}
use mathlib.Mathlib.Data.Bool.Basic.{dichotomy}
use mathlib.Core.Logic.{⊎_elim}
use Prim.Native.Nat.{ℕ, zero, suc, min, ◌+◌, ◌-◌, ◌*◌, ◌≤◌, ◌<◌}
use native.Mathlib.Nat.{lt-mul-div-succ, mul-le-mul_left, mul-le-mul_right, mul-lt-mul_of_pos_left}
use native.Mathlib.Omega.{arith}
use lib.Dec.{ltb}
use borrow.Author.Tests.{ltb-true, ltb-false}
use Rattle.counting.specs.Words.{one, sum_of}
use Rattle.shares.specs.Rounds.{least_share, larger_shares, round_share}
use Rattle.shares.proofs.Sums.{shares-upto, shares_whole}
use Rattle.balanced_plan.specs.Floor.{ceil, depth}

-- a quotient that is rounded up covers the number
ceil-covers : (a b : ℕ) → 0 < b → a ≤ b * ceil a b
ceil-covers a b l = omega (arith, lt-mul-div-succ (a + (b - 1)) {b = b} l)

-- where b times c covers a, and there are more than j for each of b, c for each of them are more than j for each of a
covered : (a b c u j : ℕ) → 0 < a → a ≤ b * c → b * j < u → j * a < u * c
covered a b zero u j l h more = absurd (omega arith)
covered a b (suc c) u j l h more = omega (arith, mul-le-mul_left j h, mul-le-mul_right (suc c) more)

-- where more than j free streets are left for each round from i on, j for each site that is left are fewer than the streets' places for them
crowd-of : (m k i u j : ℕ) → i < k → k ≤ m → (k - i) * j < u → j * (m - i) < u * (depth m k i - i)
crowd-of m k i u j l few more =
    let c : ℕ = ceil (m - i) (k - i) in
    let place : depth m k i - i ≡ c = omega arith in
    rw place (covered (m - i) (k - i) c u j (omega arith) (ceil-covers (m - i) (k - i) (omega arith)) more)

-- where a round's share is x, or one more while its number is below r, the b rounds from i on have more than j streets each for any j below
-- the share of round i
left-more : (b i x r j : ℕ) → 0 < b → j < x + one (ltb i r) → b * j < (b + i) * x + r - (i * x + min i r)
left-more b i x r j some l =
    ⊎_elim (λ o. omega (arith, ltb-false i r o, mul-lt-mul_of_pos_left {m = j} {n = x} {k = b} (omega (arith, rw o at l)) some))
    (λ y. omega (arith, ltb-true i r y, mul-le-mul_left {m = j} {n = x} b (omega (arith, rw y at l)))) (dichotomy (ltb i r))

-- so the rounds' shares leave a crowd of free streets in each round
pub share-crowd : (n m k : ℕ) → k ≤ m → (i : ℕ) → i < k → (j : ℕ) → j < round_share n k i
    → j * (m - i) < (n - sum_of i (round_share n k)) * (depth m k i - i)
share-crowd n m k few i l j h =
    let q : ℕ = least_share n k in
    let r : ℕ = larger_shares n k in
    let all : k - i + i ≡ k = omega arith in
    rw (shares-upto n k i)
    (crowd-of m k i (n - (i * q + min i r)) j l few (rw (all, shares_whole n k) at (left-more (k - i) i q r j (omega arith) h)))
