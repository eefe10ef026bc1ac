-- Values that are each multiplied by their street's weight: what a street's best counts is its weight times its plain best, so that an engine
-- may keep the plain bests and weigh them where it sums.
-- Assumes nothing.
use mathlib.Core.Path.{◌≡◌, sym, ap, ◌∙◌}
use mathlib.Core.Logic.{by_cases}
use mathlib.Core.List.{List, [], ◌∷◌, ◌++◌}
use Prim.Native.Nat.{ℕ, max, ◌*◌}
use native.Mathlib.Nat.{mul-zero, mul-le-mul_left}
use native.Mathlib.Decide.{dec_lt}
use native.Mathlib.Omega.{arith}
use Rattle.counting.specs.Words.{sum_of}
use Rattle.counting.proofs.Sums.{sum_of-same}
use Rattle.free_plan.specs.Greedy.{best, total, total_with}
use Rattle.free_plan.proofs.Totals.{best-append}

-- a number times the greater of two is the greater of the two products
times-max : (w x y : ℕ) → w * max x y ≡ max (w * x) (w * y)
times-max w x y =
    by_cases (dec_lt x y) (λ l. let e : max x y ≡ y = omega arith in rw e (omega (arith, mul-le-mul_left {m = x} {n = y} w (omega arith))))
    (λ l. let e : max x y ≡ x = omega arith in rw e (omega (arith, mul-le-mul_left {m = y} {n = x} w (omega arith))))

-- one street: the best of the products is the product with the best
pub best-times : (w : ℕ) (f : ℕ → ℕ) (S : List ℕ) → best (λ a. w * f a) S ≡ w * best f S
best-times w f [] = sym (mul-zero w)
best-times w f (a ∷ S) = ap (λ (x : ℕ). max (w * f a) x) (best-times w f S) ∙ sym (times-max w (f a) (best f S))

-- one street: the better of the best and one site more
pub best-with : (f : ℕ → ℕ) (S : List ℕ) (a : ℕ) → max (best f S) (f a) ≡ best f (S ++ (a ∷ []))
best-with f S a = sym (best-append f S (a ∷ []) ∙ omega arith)

module _ (w : ℕ → ℕ) (v : ℕ → ℕ → ℕ) (n : ℕ) (S : List ℕ) where
  -- the total, from the plain bests
  pub total-times : total (λ s a. w s * v s a) n S ≡ sum_of n (λ s. w s * best (v s) S)
  total-times = sum_of-same n _ _ (λ s l. best-times (w s) (v s) S)

  -- the total with a site besides, from the plain bests and its plain values
  pub total-with-times : (a : ℕ) → total_with (λ s b. w s * v s b) n S a ≡ sum_of n (λ s. w s * max (best (v s) S) (v s a))
  total-with-times a =
      sum_of-same n _ _ (λ s l. best-times (w s) (v s) (S ++ (a ∷ [])) ∙ ap (λ (x : ℕ). w s * x) (sym (best-with (v s) S a)))
