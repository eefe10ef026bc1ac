-- The free plan that starts from kept sites: it is a plan of k different sites that opens with them, it meets its bound, and with none kept plan and
-- bound are document 01's.
-- Assumes nothing.
use mathlib.Core.Path.{◌≡◌, ap, ◌∙◌}
use mathlib.Core.Bool.{false≢true}
use mathlib.Core.Logic.{◌↔◌}
use mathlib.Core.List.{List, []}
use Prim.Native.Nat.{ℕ, ◌+◌, ◌≤◌}
use native.Mathlib.Nat.{sub-zero, zero-add, add-zero}
use native.Mathlib.Omega.{arith}
use lib.ListN.{length, take}
use Rattle.counting.specs.Sites.{Choice}
use Rattle.counting.proofs.Sums.{sum_of-even}
use Rattle.free_plan.specs.Greedy.{total, greedy}
use Rattle.free_plan.specs.Kept.{rounds_left, keeping, KeptBound, FreeBound}
use Rattle.free_plan.proofs.Sites.{greedy-plan, greedy-opens}
use Rattle.free_plan.proofs.Bound.{bound-kept}

module _ (v : ℕ → ℕ → ℕ) (n m k : ℕ) where
  -- from different sites of 1 to m, at most k of them
  module _ {kept : List ℕ} (list : Choice m (length kept) kept) (few : length kept ≤ k) where
    -- a plan of k different sites
    pub keeping-plan : k ≤ m → Choice m k (keeping v n m k kept)
    keeping-plan most =
        let all : length kept + rounds_left k kept ≡ k = omega arith in
        rw all at (greedy-plan v n m (rounds_left k kept) list (omega arith))

    -- no choice of k sites that holds them is better by more than the bound says
    pub keeping-bound : KeptBound v n m k kept (total v n (keeping v n m k kept))
    keeping-bound other p held =
        bound-kept v n m kept other list.apart held p.sites (rounds_left k kept) (omega (arith, p.size)) (rounds_left k kept)

  -- the kept sites open it, in their order
  pub keeping-opens : (kept : List ℕ) → take (length kept) (keeping v n m k kept) ≡ kept
  keeping-opens kept = rw (add-zero, zero-add) at (greedy-opens v n m 0 (rounds_left k kept) kept)

  -- with as many kept as k it is the kept list
  pub keeping-whole : (kept : List ℕ) → length kept ≡ k → keeping v n m k kept ≡ kept
  keeping-whole kept all =
      let none : rounds_left k kept ≡ 0 = omega arith in
      ap (λ (j : ℕ). greedy v n m j kept) none

  -- with none kept it is k rounds from no site
  pub keeping_none : keeping v n m k [] ≡ greedy v n m k []
  keeping_none = ap (λ (j : ℕ). greedy v n m j []) (sub-zero k)

  -- and its bound is document 01's
  pub bound-none : (S : ℕ) → KeptBound v n m k [] S ↔ FreeBound v n m k S
  bound-none S = (order, λ b other p held. rw (sub-zero k, nothing, sub-zero (total v n other)) (b other p))
    where
      nothing : total v n [] ≡ 0
      nothing = sum_of-even n 0 ∙ omega arith

      order : KeptBound v n m k [] S → FreeBound v n m k S
      order b other p = rw (sub-zero k, nothing, sub-zero (total v n other)) at (b other p (λ a h. absurd (false≢true h)))
