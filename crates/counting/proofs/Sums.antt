-- Laws of sums and lists that a function makes, and of what stands at an index.
-- Assumes nothing.
use mathlib.Core.Path.{◌≡◌, refl, sym, ◌∙◌}
use mathlib.Core.Bool.{true, not, true≢false, false≢true, and-eq-true_iff}
use mathlib.Core.Logic.{◌≢◌, ⊎_elim, by_cases}
use mathlib.Core.List.{List, [], ◌∷◌, ◌++◌}
use Prim.Native.Nat.{ℕ, zero, suc, ◌+◌, ◌*◌, ◌≤◌, ◌<◌}
use native.Mathlib.Nat.{le_antisymm, eq-or-lt_of_le, le_of_suc-le-suc}
use native.Mathlib.Decide.{ℕ_discrete, dec_lt}
use native.Mathlib.Numerals.{add-one}
use native.Mathlib.Omega.{arith}
use lib.Dec.{eqb}
use borrow.Author.Tests.{eqb-true, not-true}
use lib.ListN.{length, take, length-append, get_or-append, get_or-eq_default}
use lib.Seq.{take-suc, get_or_at}
use Rattle.counting.specs.Words.{sum_of}
use Rattle.counting.specs.Lists.{at, has, distinct}
use Rattle.counting.specs.Buffers.{joined, list_of}
use Rattle.counting.proofs.Membership.{has-head, has-tail, or_cases}

-- a list made by a function has n numbers
pub list_of-length : (n : ℕ) (f : ℕ → ℕ) → length (list_of n f) ≡ n
unfolding joined
list_of-length zero f = refl
list_of-length (suc n) f = omega (arith, length-append (list_of n f) (f n ∷ []), list_of-length n f)

-- each of them is the function's
pub list_of-at : (n : ℕ) (f : ℕ → ℕ) (i : ℕ) → i < n → at (list_of n f) i ≡ f i
unfolding joined
list_of-at zero f i l = absurd (omega arith)
list_of-at (suc n) f i l =
    let last : i ≡ n → at (list_of (suc n) f) i ≡ f i = λ e. rw e (get_or_at (list_of n f) (f n) [] 0 n (list_of-length n f)) in
    let old : i < n → at (list_of (suc n) f) i ≡ f i = λ k. get_or-append (list_of n f) (f n ∷ []) 0 i (rw list_of-length k) ∙ list_of-at n f i k in
    ⊎_elim last old (eq-or-lt_of_le (le_of_suc-le-suc l))

-- a sum whose numbers are the same is the same
pub sum_of-same : (n : ℕ) (f g : ℕ → ℕ) → ((i : ℕ) → i < n → f i ≡ g i) → sum_of n f ≡ sum_of n g
sum_of-same zero f g h = refl
sum_of-same (suc n) f g h = omega (arith, h n (omega arith), sum_of-same n f g (λ i l. h i (omega arith)))

-- a sum whose numbers are no greater is no greater
pub sum_of-le : (n : ℕ) (f g : ℕ → ℕ) → ((i : ℕ) → i < n → f i ≤ g i) → sum_of n f ≤ sum_of n g
sum_of-le zero f g h = omega arith
sum_of-le (suc n) f g h = omega (arith, h n (omega arith), sum_of-le n f g (λ i l. h i (omega arith)))

-- where one sum is no greater, though nothing in it is less, everything is equal
pub sum_of-tight : (n : ℕ) (f g : ℕ → ℕ) → ((i : ℕ) → i < n → f i ≤ g i) → sum_of n g ≤ sum_of n f → (i : ℕ) → i < n → f i ≡ g i
sum_of-tight zero f g low most i l = absurd (omega arith)
sum_of-tight (suc n) f g low most i l =
    let rest = sum_of-le n f g (λ j k. low j (omega arith)) in
    by_cases (dec_lt i n) (sum_of-tight n f g (λ j k. low j (omega arith)) (omega (arith, low n (omega arith))) i)
    (λ o. let e : i ≡ n = omega arith in rw e (omega (arith, rest, low n (omega arith))))

-- a sum of which one number is x more is x more
pub sum_of-more : (n : ℕ) (f g : ℕ → ℕ) (b x : ℕ) → b < n → f b ≡ g b + x → ((i : ℕ) → i ≢ b → f i ≡ g i) → sum_of n f ≡ sum_of n g + x
sum_of-more zero f g b x l e h = absurd (omega arith)
sum_of-more (suc n) f g b x l e h =
    let last : b ≡ n → sum_of (suc n) f ≡ sum_of (suc n) g + x = λ q. omega (arith, rw q at e, sum_of-same n f g (λ i k. h i (omega arith))) in
    by_cases (ℕ_discrete b n) last (λ d. omega (arith, h n (omega arith), sum_of-more n f g b x (omega arith) e h))

-- a sum of more numbers is no less
pub sum_of-upto : (f : ℕ → ℕ) (i n : ℕ) → i ≤ n → sum_of i f ≤ sum_of n f
sum_of-upto f i zero l = ⊎_elim (λ e. rw e (omega arith)) (λ k. absurd (omega arith)) (eq-or-lt_of_le l)
sum_of-upto f i (suc n) l = ⊎_elim (λ e. rw e (omega arith)) (λ k. omega (arith, sum_of-upto f i n (omega arith))) (eq-or-lt_of_le l)

-- the first number of a sum apart
pub sum_of-front : (n : ℕ) (f : ℕ → ℕ) → sum_of (suc n) f ≡ f 0 + sum_of n (λ i. f (suc i))
sum_of-front zero f = omega arith
sum_of-front (suc n) f = omega (arith, sum_of-front n f)

-- a sum of equal numbers
pub sum_of-even : (n x : ℕ) → sum_of n (λ i. x) ≡ n * x
sum_of-even zero x = omega arith
sum_of-even (suc n) x = omega (arith, sum_of-even n x)

-- what stands at an index of a list stands in it
pub has-at : (S : List ℕ) (i : ℕ) → i < length S → has (at S i) S ≡ true
has-at [] i l = absurd (omega arith)
has-at (a ∷ S) zero l = has-head a S
has-at (a ∷ S) (suc i) l = has-tail (at S i) a S (has-at S i (le_of_suc-le-suc l))

-- where no number stands in a list twice, those at two indices are different
pub distinct-at : (S : List ℕ) (i j : ℕ) → distinct S ≡ true → i < j → j < length S → at S i ≢ at S j
distinct-at [] i j d l m e = absurd (omega arith)
distinct-at (a ∷ S) i zero d l m e = absurd (omega arith)
distinct-at (a ∷ S) zero (suc j) d l m e =
    let (new, apart) = (and-eq-true_iff (not (has a S)) (distinct S)).0 d in
    let in_list : has a S ≡ true = rw (sym e) at (has-at S j (omega arith)) in
    true≢false (sym in_list ∙ not-true (has a S) new)
distinct-at (a ∷ S) (suc i) (suc j) d l m e = distinct-at S i j ((and-eq-true_iff (not (has a S)) (distinct S)).0 d).1 (omega arith) (omega arith) e

-- one number more is added
pub sum_of-next : (n : ℕ) (f : ℕ → ℕ) → sum_of (n + 1) f ≡ sum_of n f + f n
sum_of-next n f = rw add-one refl

-- and the sum is whole at the end
pub sum-end : (f : ℕ → ℕ) (i n x : ℕ) → n ≤ i → i ≤ n → x ≡ sum_of i f → x ≡ sum_of n f
sum-end f i n x a b e = rw (le_antisymm b a) at e

-- past the end of a list stands 0
pub at-past : (list : List ℕ) (i : ℕ) → length list ≤ i → at list i ≡ 0
at-past list i l = get_or-eq_default list 0 l

-- only an index within a list has a number above 0
pub at-within : (list : List ℕ) (i : ℕ) → 0 < at list i → i < length list
at-within list i h = by_cases (dec_lt i (length list)) (λ l. l) (λ n. absurd (omega (arith, at-past list i (omega arith))))

-- functions that agree make the same list
pub list_of-same : (n : ℕ) (f g : ℕ → ℕ) → ((i : ℕ) → i < n → f i ≡ g i) → list_of n f ≡ list_of n g
unfolding joined
list_of-same zero f g h = refl
list_of-same (suc n) f g h = rw (list_of-same n f g (λ i l. h i (omega arith)), h n (omega arith)) refl

-- what stands in a list stands at an index
pub has-index : (a : ℕ) (S : List ℕ) → has a S ≡ true → (i : ℕ) × (i < length S) × (at S i ≡ a)
has-index a [] h = absurd (false≢true h)
has-index a (b ∷ S) h =
    ⊎_elim (λ e. (0, omega arith, sym (eqb-true a b e))) (λ e. let (i, l, q) = has-index a S e in (suc i, omega arith, q)) (or_cases (eqb a b) (has a S) h)

-- a list with one entry more
pub take_next : (list : List ℕ) (i : ℕ) → i < length list → take (i + 1) list ≡ take i list ++ (at list i ∷ [])
take_next list i l = rw (add-one, take-suc list i 0 l) refl
