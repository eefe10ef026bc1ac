-- Laws of lists: of the numbers of a list that pass a test, of its first numbers, of how often one stands in it, and of sums over it.
-- Assumes nothing.
use mathlib.Core.Path.{◌≡◌, refl, sym}
use mathlib.Core.Bool.{Bool, true, false, not, ◌&&◌, true≢false, and-eq-true_iff, and-false}
use mathlib.Mathlib.Data.Bool.Basic.{dichotomy}
use mathlib.Core.Logic.{⊎_elim}
use mathlib.Core.List.{List, [], ◌∷◌}
use Prim.Native.Nat.{ℕ, zero, suc, ◌+◌, ◌*◌, ◌≤◌, ◌<◌}
use native.Mathlib.Omega.{arith}
use lib.Dec.{eqb}
use lib.ListN.{length, take}
use borrow.Author.Tests.{eqb-true, eq-eqb}
use Rattle.counting.specs.Words.{one}
use Rattle.counting.specs.Lists.{has, distinct, count, sum, only}
use Rattle.counting.proofs.Refusals.{or_left, and_both}
use Rattle.counting.proofs.Membership.{cond-at, or_cases, has-tail, one-not}

-- ---- the numbers that pass a test
-- a number stands among them where it stands in the list and passes
pub has-only : (test : ℕ → Bool) (b : ℕ) (list : List ℕ) → has b (only test list) ≡ (has b list && test b)
has-only test b [] = refl
has-only test b (a ∷ list) =
    cond-at (λ (M : List ℕ). has b M ≡ (has b (a ∷ list) && test b)) (test a)
    (λ y. ⊎_elim (λ n. rw n (has-only test b list)) (λ e. cc (eqb-true b a e, y)) (dichotomy (eqb b a)))
    (λ o. ⊎_elim (λ n. rw n (has-only test b list)) (λ e. cc (has-only test b list, eqb-true b a e, o, and-false (has b list))) (dichotomy (eqb b a)))

-- what stands among them stands in the list, and passes
pub only-has : (test : ℕ → Bool) (b : ℕ) (list : List ℕ) → has b (only test list) ≡ true → (has b list ≡ true) × (test b ≡ true)
only-has test b list h = (and-eq-true_iff (has b list) (test b)).0 (rw has-only at h)

-- there are as many as there are entries that pass
pub only-length : (test : ℕ → Bool) (list : List ℕ) → length (only test list) ≡ sum (λ a. one (test a)) list
only-length test [] = refl
only-length test (a ∷ list) =
    cond-at (λ (M : List ℕ). length M ≡ one (test a) + sum (λ a. one (test a)) list) (test a) (λ y. rw y (omega (arith, only-length test list)))
    (λ o. rw o (omega (arith, only-length test list)))

-- a number that does not stand in a list does not stand in a part of it
not_in : (s t : Bool) → (t ≡ true → s ≡ true) → not s ≡ true → not t ≡ true
not_in true t h n = absurd (true≢false (sym n))
not_in false true h n = absurd (true≢false (sym (h refl)))
not_in false false h n = refl

-- where no number stands in the list twice, none stands twice among them
pub only-distinct : (test : ℕ → Bool) (list : List ℕ) → distinct list ≡ true → distinct (only test list) ≡ true
only-distinct test [] d = refl
only-distinct test (a ∷ list) d =
    let (new, apart) = (and-eq-true_iff (not (has a list)) (distinct list)).0 d in
    let more : List ℕ = only test list in
    let again : distinct more ≡ true = only-distinct test list apart in
    cond-at (λ (M : List ℕ). distinct M ≡ true) (test a)
    (λ y. and_both (not (has a more)) (distinct more) (not_in (has a list) (has a more) (λ h. (only-has test a list h).0) new) again) (λ o. again)

-- ---- the first numbers
-- one of the first numbers of a list stands in it
pub has-take : (q b : ℕ) (list : List ℕ) → has b (take q list) ≡ true → has b list ≡ true
has-take zero b list h = absurd (true≢false (sym h))
has-take (suc q) b [] h = absurd (true≢false (sym h))
has-take (suc q) b (a ∷ list) h =
    ⊎_elim (or_left (eqb b a) (has b list)) (λ i. has-tail b a list (has-take q b list i)) (or_cases (eqb b a) (has b (take q list)) h)

-- where no number stands in the list twice, none stands twice among the first
pub take-distinct : (q : ℕ) (list : List ℕ) → distinct list ≡ true → distinct (take q list) ≡ true
take-distinct zero list d = refl
take-distinct (suc q) [] d = refl
take-distinct (suc q) (a ∷ list) d =
    let (new, apart) = (and-eq-true_iff (not (has a list)) (distinct list)).0 d in
    let first : not (has a (take q list)) ≡ true = not_in (has a list) (has a (take q list)) (has-take q a list) new in
    and_both (not (has a (take q list))) (distinct (take q list)) first (take-distinct q list apart)

-- ---- how often a number stands in a list
-- no more often than the list is long
pub count_most : (list : List ℕ) (a : ℕ) → count list a ≤ length list
unfolding count
count_most [] a = omega arith
count_most (b ∷ list) a = omega (arith, one-not (eqb b a), count_most list a)

-- a number that is counted stands in it
pub count-has : (list : List ℕ) (a : ℕ) → 0 < count list a → has a list ≡ true
unfolding count
count-has [] a h = absurd (omega arith)
count-has (b ∷ list) a h =
    ⊎_elim (λ o. has-tail a b list (count-has list a (omega (arith, rw o at h)))) (λ y. or_left (eqb a b) (has a list) (eq-eqb a b (sym (eqb-true b a y)))) (dichotomy (eqb b a))

-- ---- sums
-- a sum of equal numbers
pub sum-even : (x : ℕ) (list : List ℕ) → sum (λ a. x) list ≡ length list * x
sum-even x [] = omega arith
sum-even x (a ∷ list) = omega (arith, sum-even x list)

-- the entries that pass a test and those that do not are all
pub sum-parts : (test : ℕ → Bool) (list : List ℕ) → sum (λ a. one (test a)) list + sum (λ a. one (not (test a))) list ≡ length list
sum-parts test [] = refl
sum-parts test (a ∷ list) = omega (arith, one-not (test a), sum-parts test list)
