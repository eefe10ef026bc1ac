-- Two values that agree for the n streets and the sites up to m give the same totals and the same greedy plan: what an engine's table needs.
-- Assumes nothing.
use mathlib.Core.Path.{◌≡◌, refl, ap, ◌∙◌}
use mathlib.Core.Bool.{true}
use mathlib.Core.Logic.{⊎_elim}
use mathlib.Core.List.{List, [], ◌∷◌, ◌++◌}
use Prim.Native.Nat.{ℕ, zero, suc, ◌≤◌, ◌<◌}
use Rattle.counting.specs.Lists.{has}
use Rattle.counting.specs.Greatest.{unchosen}
use Rattle.counting.proofs.Greatest.{greatest-le, greatest-same}
use Rattle.counting.proofs.Membership.{has-head, has-tail, has_last}
use Rattle.counting.proofs.Sums.{sum_of-same}
use Rattle.free_plan.specs.Greedy.{best, total, total_with, pick, greedy}

-- no entry of the list is above m
abbrev pub AtMost : ℕ → List ℕ → Type 0
AtMost m S = (a : ℕ) → has a S ≡ true → a ≤ m

pub at-most-more : (m : ℕ) (S : List ℕ) (b : ℕ) → AtMost m S → b ≤ m → AtMost m (S ++ (b ∷ []))
at-most-more m S b h l a i = ⊎_elim (λ e. h a e) (λ e. rw e l) (has_last a b S i)

-- the greedy plan stays among the sites up to m
pub greedy-most : (v : ℕ → ℕ → ℕ) (n m k : ℕ) (S : List ℕ) → AtMost m S → AtMost m (greedy v n m k S)
greedy-most v n m zero S h = h
greedy-most v n m (suc k) S h =
    let so = greedy v n m k S in
    at-most-more m so _ (greedy-most v n m k S h) (greatest-le (unchosen so) _ m)

module _ (v w : ℕ → ℕ → ℕ) (n m : ℕ) (same : (s a : ℕ) → s < n → a ≤ m → v s a ≡ w s a) where
  pub best-agree : (s : ℕ) → s < n → (S : List ℕ) → AtMost m S → best (v s) S ≡ best (w s) S
  best-agree s l [] h = refl
  best-agree s l (a ∷ S) h = rw (same s a l (h a (has-head a S)), best-agree s l S (λ b i. h b (has-tail b a S i))) refl

  pub total-agree : (S : List ℕ) → AtMost m S → total v n S ≡ total w n S
  total-agree S h = sum_of-same n _ _ (λ s l. best-agree s l S h)

  pick-agree : (S : List ℕ) → AtMost m S → pick v n m S ≡ pick w n m S
  pick-agree S h =
      greatest-same (unchosen S) (unchosen S) (total_with v n S) (total_with w n S) m (λ a l. refl)
      (λ a l y. total-agree (S ++ (a ∷ [])) (at-most-more m S a h l))

  pub greedy-agree : (k : ℕ) (S : List ℕ) → AtMost m S → greedy v n m k S ≡ greedy w n m k S
  greedy-agree zero S h = refl
  greedy-agree (suc k) S h =
      let so = greedy v n m k S in
      ap (λ (b : ℕ). so ++ (b ∷ [])) (pick-agree so (greedy-most v n m k S h))
      ∙ ap (λ (R : List ℕ). R ++ (pick w n m R ∷ [])) (greedy-agree k S h)
