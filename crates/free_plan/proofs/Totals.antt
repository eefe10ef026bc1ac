-- Laws of the total of a list of sites: it grows with the list, only membership matters, and two lists together add no more than each alone.
-- Assumes nothing.
use mathlib.Core.Path.{◌≡◌, refl, sym}
use mathlib.Core.Bool.{true, cond, ◌&&◌, true≢false, and-eq-true_iff, and-false}
use mathlib.Mathlib.Data.Bool.Basic.{dichotomy}
use mathlib.Core.Logic.{⊎_elim}
use mathlib.Core.List.{List, [], ◌∷◌, ◌++◌}
use Prim.Native.Nat.{ℕ, zero, suc, max, ◌+◌, ◌*◌, ◌≤◌, ◌<◌}
use native.Mathlib.Nat.{le_antisymm}
use native.Mathlib.Omega.{arith}
use lib.Dec.{eqb}
use borrow.Author.Tests.{eqb-true}
use Rattle.counting.specs.Lists.{has}
use Rattle.counting.proofs.Membership.{cond-at, or_cases, has-head, has-tail, has_last}
use Rattle.free_plan.specs.Greedy.{best, total, total_with}
use Rattle.counting.specs.Sites.{Sub}

-- one street: a site of the list scores at most the best score
pub best-has : (f : ℕ → ℕ) (a : ℕ) (S : List ℕ) → has a S ≡ true → f a ≤ best f S
best-has f a [] h = absurd (true≢false (sym h))
best-has f a (b ∷ S) h =
    ⊎_elim (λ e. rw (eqb-true a b e) (omega arith)) (λ i. omega (arith, best-has f a S i)) (or_cases (eqb a b) (has a S) h)

-- one street: what bounds each site's score bounds the best
pub best-le : (f : ℕ → ℕ) (x : ℕ) (S : List ℕ) → ((a : ℕ) → has a S ≡ true → f a ≤ x) → best f S ≤ x
best-le f x [] h = omega arith
best-le f x (b ∷ S) h = omega (arith, h b (has-head b S), best-le f x S (λ a i. h a (has-tail a b S i)))

-- one street: the best score of two lists together is the better of their best
pub best-append : (f : ℕ → ℕ) (S T : List ℕ) → best f (S ++ T) ≡ max (best f S) (best f T)
best-append f [] T = omega arith
best-append f (a ∷ S) T = omega (arith, best-append f S T)

-- one street: a list within another scores no more
best-sub : (f : ℕ → ℕ) (S T : List ℕ) → Sub S T → best f S ≤ best f T
best-sub f S T h = best-le f (best f T) S (λ a i. best-has f a T (h a i))

-- the sites of the first list that the second has too
abbrev pub common : List ℕ → List ℕ → List ℕ
common [] T = []
common (a ∷ S) T = let rest : List ℕ = common S T in cond (has a T) (a ∷ rest) rest

-- a site is in common where both lists have it
pub has-common : (a : ℕ) (S T : List ℕ) → has a (common S T) ≡ (has a S && has a T)
has-common a [] T = refl
has-common a (b ∷ S) T =
    cond-at (λ (M : List ℕ). has a M ≡ (has a (b ∷ S) && has a T)) (has b T)
    (λ e. ⊎_elim (λ n. rw n (has-common a S T)) (λ y. cc (eqb-true a b y)) (dichotomy (eqb a b)))
    (λ e. ⊎_elim (λ n. rw n (has-common a S T)) (λ y. cc (has-common a S T, eqb-true a b y, and-false (has a S))) (dichotomy (eqb a b)))

common-both : (S T : List ℕ) (a : ℕ) → has a (common S T) ≡ true → (has a S ≡ true) × (has a T ≡ true)
common-both S T a h = (and-eq-true_iff (has a S) (has a T)).0 (rw has-common at h)

module _ (v : ℕ → ℕ → ℕ) where
  -- what holds of each street's best scores in four lists holds of the totals
  total-two : (n : ℕ) (A B C D : List ℕ) → ((s : ℕ) → best (v s) A + best (v s) B ≤ best (v s) C + best (v s) D)
      → total v n A + total v n B ≤ total v n C + total v n D
  total-two zero A B C D h = omega arith
  total-two (suc n) A B C D h = omega (arith, total-two n A B C D h, h n)

  -- and of two lists
  total-le : (n : ℕ) (S T : List ℕ) → ((s : ℕ) → best (v s) S ≤ best (v s) T) → total v n S ≤ total v n T
  total-le n S T h = omega (arith, total-two n S [] T [] (λ s. omega (arith, h s)))

  -- a list within another has no greater total
  pub total-sub : (n : ℕ) (S T : List ℕ) → Sub S T → total v n S ≤ total v n T
  total-sub n S T h = total-le n S T (λ s. best-sub (v s) S T h)

  -- more sites, behind or before, never lower the total
  pub total-append : (n : ℕ) (S T : List ℕ) → total v n S ≤ total v n (S ++ T)
  total-append n S T = total-le n S (S ++ T) (λ s. rw best-append (omega arith))

  pub total-prepend : (n : ℕ) (S T : List ℕ) → total v n T ≤ total v n (S ++ T)
  total-prepend n S T = total-le n T (S ++ T) (λ s. rw best-append (omega arith))

  -- order and repetition do not matter
  pub total-same : (n : ℕ) (S T : List ℕ) → Sub S T → Sub T S → total v n S ≡ total v n T
  total-same n S T h k = le_antisymm (total-sub n S T h) (total-sub n T S k)

  -- the total of both together and the total of sites that both have come to no more than the two totals
  pub submodular : (n : ℕ) (S T M : List ℕ) → Sub M S → Sub M T → total v n (S ++ T) + total v n M ≤ total v n S + total v n T
  submodular n S T M h k =
      total-two n (S ++ T) M S T (λ s. rw best-append (omega (arith, best-sub (v s) M S h, best-sub (v s) M T k)))

  -- the same with all the sites in common
  pub submodular-common : (n : ℕ) (S T : List ℕ) → total v n (S ++ T) + total v n (common S T) ≤ total v n S + total v n T
  submodular-common n S T = submodular n S T (common S T) (λ a h. (common-both S T a h).0) (λ a h. (common-both S T a h).1)

  -- a site adds to a longer list no more than to a shorter
  pub total-step : (n : ℕ) (S T : List ℕ) (a : ℕ) → total v n (S ++ (a ∷ T)) + total v n S ≤ total v n (S ++ T) + total_with v n S a
  total-step n S T a = total-two n (S ++ (a ∷ T)) S (S ++ T) (S ++ (a ∷ [])) (λ s. simp best-append (omega arith))

  -- a site that the list has already adds nothing
  pub total-again : (n : ℕ) (S : List ℕ) (a : ℕ) → has a S ≡ true → total_with v n S a ≤ total v n S
  total-again n S a h = total-sub n (S ++ (a ∷ [])) S (λ b i. ⊎_elim (λ j. j) (λ e. rw e h) (has_last b a S i))

  -- a bound of each score bounds the total
  pub total-bound : (n : ℕ) (S : List ℕ) (x : ℕ) → ((s : ℕ) → s < n → (a : ℕ) → v s a ≤ x) → total v n S ≤ n * x
  total-bound zero S x h = omega arith
  total-bound (suc n) S x h = omega (arith, total-bound n S x (λ s l. h s (omega arith)), best-le (v n) x S (λ a i. h n (omega arith) a))
