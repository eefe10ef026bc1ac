-- The floor by scores, multiplied by the least household weight, is no more than the counted total of the best division in the rounds' shares.
-- Assumes nothing.
use mathlib.Core.Path.{◌≡◌, refl, ap, ◌∙◌}
use mathlib.Core.Bool.{Bool, true, false}
use mathlib.Core.List.{List}
use Prim.Native.Nat.{ℕ, zero, suc, ◌-◌, ◌*◌, ◌≤◌, ◌<◌}
use native.Mathlib.Nat.{mul-le-mul, mul_left_comm, mul-add}
use native.Mathlib.Omega.{arith}
use lib.Dec.{leb}
use Rattle.counting.specs.Words.{◌when◌, sum_of}
use Rattle.division.specs.Shares.{shares_of, division_total}
use Rattle.division.specs.Divide.{divide}
use Rattle.balanced_plan.specs.Floor.{depth, sure, added, floor}
use Rattle.balanced_plan.proofs.RoundShares.{sites_after}
use Rattle.balanced_plan.proofs.Floored.{Ranking, best-floor}

-- a number times one that counts where a test holds
times-when : (x y : ℕ) (t : Bool) → (x * y) when t ≡ x * (y when t)
unfolding ◌when◌
times-when x y true = refl
times-when x y false = omega arith

-- a round is sure of so many times as much
added-times : (q score : ℕ → ℕ) (x t m k i : ℕ) → added q (λ p. x * score p) t m k i ≡ x * added q score t m k i
added-times q score x t m k i =
    ap (λ (y : ℕ). q i * y) (times-when x (score (depth m k i)) (leb (depth m k i) t)) ∙ mul_left_comm (q i) x (sure score t m k i)

-- the floor by scores that are so many times as much is so many times the floor
pub floor-times : (q score : ℕ → ℕ) (x t m k : ℕ) → floor q (λ p. x * score p) t m k ≡ x * floor q score t m k
floor-times q score x t m k = go k
  where
    go : (i : ℕ) → sum_of i (added q (λ p. x * score p) t m k) ≡ x * sum_of i (added q score t m k)
    go zero = omega arith
    go (suc i) = omega (arith, go i, added-times q score x t m k i, mul-add x (sum_of i (added q score t m k)) (added q score t m k i))

-- where streets rank as many sites and a weight multiplies what each gives, one of its first p has at least the score at p times the least weight
pub weighed-ranking : {v : ℕ → ℕ → ℕ} {score : ℕ → ℕ} {n m t : ℕ} {lists : ℕ → List ℕ} (weight : ℕ → ℕ) (least : ℕ)
    → ((s : ℕ) → s < n → least ≤ weight s) → Ranking v score n m t lists
    → Ranking (λ s a. weight s * v s a) (λ p. least * score p) n m t lists
weighed-ranking weight least low r =
    record { apart = r.apart; sites = r.sites; long = r.long; good = λ s a p l h i. mul-le-mul (low s l) (r.good s a p l h i) }

-- by any key along whose order the counted scores never rise
module _ (v key : ℕ → ℕ → ℕ) (weight : ℕ → ℕ) (least n m t : ℕ) (score : ℕ → ℕ) (lists : ℕ → List ℕ)
    (falls : (a s u : ℕ) → s < n → u < n → key a s ≤ key a u → weight u * v u a ≤ weight s * v s a)
    (low : (s : ℕ) → s < n → least ≤ weight s) (ranked : Ranking v score n m t lists)
    (q : ℕ → ℕ) (k : ℕ) (zeros : (s : ℕ) → v s 0 ≡ 0) (few : k ≤ m) (whole : sum_of k q ≡ n)
    (crowd : (i : ℕ) → i < k → (j : ℕ) → j < q i → j * (m - i) < (n - sum_of i q) * (depth m k i - i)) where
  -- the counted score
  abbrev c : ℕ → ℕ → ℕ
  c s a = weight s * v s a

  none : (s : ℕ) → c s 0 ≡ 0
  none s = rw (zeros s) (omega arith)

  -- the best division's counted total is no less than the floor times the least weight
  pub counted-best-floor : least * floor q score t m k ≤ division_total c (divide c n (shares_of q (sites_after c key n m q k) m))
  counted-best-floor =
      rw (floor-times q score least t m k) at
      (best-floor c key n m falls t (λ p. least * score p) lists (weighed-ranking weight least low ranked) q k none few whole crowd)
