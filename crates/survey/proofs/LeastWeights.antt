-- Laws of household weights: how great one can be, weights of 1, and the smallest.
-- Assumes nothing.
use mathlib.Core.Path.{◌≡◌, ap, ◌∙◌}
use mathlib.Core.Logic.{⊎_elim, by_cases}
use mathlib.Core.List.{List}
use Prim.Native.Nat.{ℕ, zero, suc, ◌+◌, ◌≤◌, ◌<◌, zero-le, min}
use native.Mathlib.Nat.{le_antisymm, eq-or-lt_of_le, le_of_suc-le-suc}
use native.Mathlib.Numerals.{add-one}
use native.Mathlib.Decide.{dec_lt}
use native.Mathlib.Omega.{arith}
use lib.ListN.{length, replicate, length-replicate, get_or-replicate}
use Rattle.counting.specs.Bounds.{top_weight}
use Rattle.counting.specs.Words.{◌when◌}
use Rattle.counting.specs.Lists.{at}
use Rattle.counting.proofs.Refusals.{first-zeros}
use Rattle.counting.proofs.Sums.{at-past}
use Rattle.survey.specs.Town.{Town}
use Rattle.survey.specs.Rows.{least_of, least_weight, SmallestWeight}
use Rattle.survey.specs.Refusals.{weight_refusal, weights_refusal}
use Rattle.survey.specs.Accepted.{SoundWeights, Accepted}

-- no weight is above the greatest, one past the streets neither
pub weight-bound : (weights : List ℕ) → SoundWeights weights → (s : ℕ) → at weights s ≤ top_weight
weight-bound weights sound s = by_cases (dec_lt s (length weights)) (sound.top s) (λ h. rw (at-past weights s (omega arith)) zero-le)

-- the smallest weight is no more than any
pub least-low : (n : ℕ) (weights : List ℕ) (s : ℕ) → s < n → least_of n weights ≤ at weights s
least-low zero weights s l = absurd (omega arith)
least-low (suc n) weights s l = ⊎_elim (λ e. rw e (omega arith)) (λ k. omega (arith, least-low n weights s k)) (eq-or-lt_of_le (le_of_suc-le-suc l))

-- and it is that of some street
pub least-some : (n : ℕ) (weights : List ℕ) → 1 ≤ n → SoundWeights weights → (s : ℕ) × (s < n) × (at weights s ≡ least_of n weights)
least-some zero weights some sound = absurd (omega arith)
least-some (suc zero) weights some sound = (0, omega arith, omega (arith, weight-bound weights sound 0))
least-some (suc (suc n)) weights some sound =
    let (s, l, e) = least-some (suc n) weights (omega arith) sound in
    by_cases (dec_lt (at weights (suc n)) (least_of (suc n) weights)) (λ h. (suc n, omega arith, omega arith)) (λ h. (s, omega arith, omega arith))

pub smallest : {t : Town} → Accepted t → SmallestWeight t (least_weight t)
smallest {t} ok =
    record { low = least-low t.n t.weights; some = least-some t.n t.weights ok.some-street ok.sound-weights }

-- where all weights are 1, so is the smallest
pub least-ones : (n : ℕ) (weights : List ℕ) → 1 ≤ n → ((s : ℕ) → s < n → at weights s ≡ 1) → least_of n weights ≡ 1
least-ones zero weights some ones = absurd (omega arith)
least-ones (suc zero) weights some ones = omega (arith, ones 0 (omega arith))
least-ones (suc (suc n)) weights some ones =
    omega (arith, least-ones (suc n) weights (omega arith) (λ s l. ones s (omega arith)), ones (suc n) (omega arith))

-- weights of 1 are accepted
pub ones-accepted : (n : ℕ) → weights_refusal (replicate n 1) ≡ 0
unfolding ◌when◌
ones-accepted n =
    first-zeros (length (replicate n 1)) (λ i. weight_refusal (at (replicate n 1) i))
    (λ i l. ap weight_refusal (get_or-replicate n i 1 0 (omega (arith, length-replicate {A = ℕ} n 1))))

module _ (weights : List ℕ) (s x : ℕ) where
  -- the smallest with one street more
  pub least-next : (z : ℕ) → x ≡ least_of s weights → z ≡ min x (at weights s) → z ≡ least_of (s + 1) weights
  least-next z e g = rw (add-one s) (g ∙ ap (λ (u : ℕ). min u (at weights s)) e)

  -- and at the end that of all
  pub least-end : length weights ≤ s → s ≤ length weights → x ≡ least_of s weights → x ≡ least_of (length weights) weights
  least-end a b e = rw (le_antisymm b a) at e
