-- The greedy bound: how near k rounds come to any list of sites, from any list they start with.
-- Assumes nothing.
use mathlib.Core.Path.{◌≡◌}
use mathlib.Core.Bool.{true, false, not}
use mathlib.Mathlib.Data.Bool.Basic.{dichotomy}
use mathlib.Core.Logic.{⊎_elim}
use mathlib.Core.List.{List, [], ◌∷◌, ◌++◌, append-nil}
use Prim.Native.Nat.{ℕ, zero, suc, ◌+◌, ◌-◌, ◌*◌, ◌^◌, ◌≤◌, ◌<◌}
use native.Mathlib.Nat.{mul-sub, mul-le-mul_left, mul-le-mul_right, pow-zero, pow-suc, le_trans, le_of_eq, sub-le}
use native.Mathlib.Numerals.{sub-one}
use native.Mathlib.Omega.{arith}
use lib.ListN.{length}
use Rattle.counting.specs.Words.{one}
use Rattle.counting.specs.Lists.{has, distinct, sum}
use Rattle.counting.specs.Greatest.{unchosen}
use Rattle.counting.proofs.Membership.{one-not, one_more, has-head, has-tail, sum-two, sum-le, sum-length, distinct-within}
use Rattle.counting.proofs.Greatest.{unchosen-yes, greatest-of}
use Rattle.free_plan.specs.Greedy.{total, total_with, pick, greedy}
use Rattle.counting.specs.Sites.{Sites, Sub}
use Rattle.free_plan.proofs.Totals.{total-append, total-prepend, total-step, total-again}
use Rattle.free_plan.proofs.Sites.{greedy-holds}

-- how many entries of the second list do not stand in the first
abbrev pub fresh : List ℕ → List ℕ → ℕ
fresh S U = sum (λ a. one (not (has a S))) U

-- a list that holds more leaves fewer
fresh-falls : (S R U : List ℕ) → Sub S R → fresh R U ≤ fresh S U
fresh-falls S R U h = sum-le _ _ U (λ a i. omega (arith, one-not (has a R), one-not (has a S), one_more (has a S) (has a R) (h a)))

-- a list with no site twice, held by the second, leaves what the second has more
fresh-rest : (S U : List ℕ) → distinct S ≡ true → Sub S U → fresh S U + length S ≤ length U
fresh-rest S U d h =
    omega (
      arith,
      distinct-within S U d h,
      sum-length (λ a. true) U,
      sum-two (λ a. one (not (has a S))) (λ a. one (has a S)) (λ a. 1) U (λ a i. omega (arith, one-not (has a S))),
    )

-- what a round leaves missing of a number c, and what k rounds leave: numbers alone
missing-falls : (l c s t : ℕ) → s ≤ t → c ≤ s + l * (t - s) → l * (c - t) ≤ (l - 1) * (c - s)
missing-falls zero c s t h k = omega arith
missing-falls (suc l) c s t h k = simp (sub-one, mul-sub) (omega (arith, rw mul-sub at k, mul-le-mul_left (suc l) h))

powers : (l k j x y z : ℕ) → l * y ≤ k * x → l ^ j * x ≤ k ^ j * z → l ^ suc j * y ≤ k ^ suc j * z
powers l k j x y z h i = rw (pow-suc l, pow-suc k) (omega (arith, mul-le-mul_left (l ^ j) h, mul-le-mul_left k i))

module _ (v : ℕ → ℕ → ℕ) (n m : ℕ) where
  -- where no site raises the total of S by more than r, the fresh sites of U together raise it by at most r each
  total-many : (S U : List ℕ) (r : ℕ) → ((a : ℕ) → has a U ≡ true → has a S ≡ false → total_with v n S a ≤ total v n S + r)
      → total v n (S ++ U) ≤ total v n S + fresh S U * r
  total-many S [] r h = rw append-nil (omega arith)
  total-many S (a ∷ U) r h =
      let again = total-many S U r (λ b i. h b (has-tail b a U i)) in
      let step = total-step v n S U a in
      ⊎_elim (λ new. rw new (omega (arith, again, step, h a (has-head a U) new))) (λ old. rw old (omega (arith, again, step, total-again v n S a old)))
      (dichotomy (has a S))

  -- a round raises the total as much as any site of 1 to m that is not chosen
  pub pick-most : (S : List ℕ) (a : ℕ) → 0 < a → a ≤ m → has a S ≡ false → total_with v n S a ≤ total_with v n S (pick v n m S)
  pick-most S a low high new =
      let free = unchosen-yes S a low new in
      (greatest-of (unchosen S) (total_with v n S) m a high free).most a high free

  module _ (U : List ℕ) (sites : Sites m U) (l : ℕ) where
    -- a round from S closes an l-th part of what S lacks of U
    round : (S : List ℕ) → fresh S U ≤ l → total v n U ≤ total v n S + l * (total_with v n S (pick v n m S) - total v n S)
    round S few =
        let r : ℕ = total_with v n S (pick v n m S) - total v n S in
        omega (
          arith,
          total-prepend v n S U,
          mul-le-mul_right r few,
          total-many S U r (λ a i new. omega (arith, pick-most S a (sites a i).0 (sites a i).1 new, total-append v n S (pick v n m S ∷ []))),
        )

    -- the bound: from any list S of which at most l entries of U are missing, after any number of rounds
    pub greedy-bound : (S : List ℕ) → fresh S U ≤ l → (j : ℕ) →
        l ^ j * (total v n U - total v n (greedy v n m j S)) ≤ (l - 1) ^ j * (total v n U - total v n S)
    greedy-bound S few zero = simp pow-zero (omega arith)
    greedy-bound S few (suc j) =
        let G = greedy v n m j S in
        let fewer = le_trans (fresh-falls S G U (greedy-holds v n m j S)) few in
        powers l (l - 1) j _ _ _ (missing-falls l _ (total v n G) _ (total-append v n G (pick v n m G ∷ [])) (round G fewer)) (greedy-bound S few j)

  -- from different sites that are kept, against any list that holds them and at most l sites more
  pub bound-kept : (S U : List ℕ) → distinct S ≡ true → Sub S U → Sites m U → (l : ℕ) → length U ≤ length S + l → (j : ℕ) →
      l ^ j * (total v n U - total v n (greedy v n m j S)) ≤ (l - 1) ^ j * (total v n U - total v n S)
  bound-kept S U apart held sites l few = greedy-bound U sites l S (omega (arith, fresh-rest S U apart held))

  -- from no site, against any list of at most l sites
  pub bound-any : (T : List ℕ) → Sites m T → (l : ℕ) → length T ≤ l → (j : ℕ) →
      l ^ j * (total v n T - total v n (greedy v n m j [])) ≤ (l - 1) ^ j * total v n T
  bound-any T sites l few j =
      let from-none = greedy-bound T sites l [] (le_trans (sum-length (λ a. true) T) few) j in
      le_trans from-none (mul-le-mul_left ((l - 1) ^ j) (sub-le (total v n T) (total v n [])))

  -- the plan of k rounds, against any k different sites: document 01's bound
  pub bound-plan : (k : ℕ) (T : List ℕ) → length T ≡ k → distinct T ≡ true → Sites m T →
      k ^ k * (total v n T - total v n (greedy v n m k [])) ≤ (k - 1) ^ k * total v n T
  bound-plan k T size apart sites = bound-any T sites k (le_of_eq size) k
