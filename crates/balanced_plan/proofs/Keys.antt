-- Document 01's key, the place, puts first who scores no less: all that the floor asks of a key.
-- Assumes nothing.
use mathlib.Core.Path.{◌≡◌, sym}
use mathlib.Core.Logic.{⊎_elim}
use Prim.Native.Nat.{ℕ, ◌+◌, ◌≤◌, ◌<◌}
use native.Mathlib.Nat.{eq-zero-or-pos}
use native.Mathlib.Omega.{arith}
use Rattle.counting.specs.Words.{◌or_else◌}
use Rattle.counting.proofs.Refusals.{own-stop}
use Rattle.balanced_plan.specs.Rounds.{place_key}

module _ (place : ℕ → ℕ → ℕ) (m a s : ℕ) where
  -- a street that ranked the site is ordered by its place
  key-ranked : 0 < place s a → place_key place m a s ≡ place s a
  key-ranked l = sym (own-stop _ _ (λ e. omega arith))

  -- one that did not comes after all m places
  key-unranked : place s a ≡ 0 → m < place_key place m a s
  unfolding ◌or_else◌
  key-unranked e = rw e (omega arith)

  -- so no key is above m + 1
  pub key-most : place s a ≤ m → place_key place m a s ≤ m + 1
  unfolding ◌or_else◌
  key-most l = ⊎_elim (λ e. rw e (omega arith)) (λ k. omega (arith, key-ranked k)) (eq-zero-or-pos (place s a))

-- a street that the key puts first scores no less, where scores never rise with the place and no place scores 0
pub place-falls : (place : ℕ → ℕ → ℕ) (score : ℕ → ℕ) (m : ℕ) → ((p r : ℕ) → 0 < p → p ≤ r → score r ≤ score p) → score 0 ≡ 0
    → (a s u : ℕ) → place u a ≤ m → place_key place m a s ≤ place_key place m a u → score (place u a) ≤ score (place s a)
place-falls place score m never none a s u l h =
    let first : 0 < place u a → 0 < place s a =
    λ k. ⊎_elim (λ e. absurd (omega (arith, key-ranked place m a u k, key-unranked place m a s e))) (λ j. j)
    (eq-zero-or-pos (place s a)) in
    let ranked : 0 < place u a → score (place u a) ≤ score (place s a) =
    λ k. never (place s a) (place u a) (first k) (omega (arith, key-ranked place m a u k, key-ranked place m a s (first k))) in
    ⊎_elim (λ e. rw e (omega arith)) ranked (eq-zero-or-pos (place u a))
