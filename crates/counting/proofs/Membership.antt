-- Laws of membership in a list: where a number stands, sums over the numbers that stand in it, that none stands twice, and that a site is
-- left while a list is short (the pigeonhole).
-- Assumes nothing.
use mathlib.Core.Path.{◌≡◌, refl, sym, ap, ◌∙◌}
use mathlib.Core.Bool.{Bool, true, false, cond, not, ◌||◌, true≢false, and-eq-true_iff, or_assoc, or-false}
use mathlib.Mathlib.Data.Bool.Basic.{dichotomy}
use mathlib.Core.Logic.{◌⊎◌, inl, inr, ⊎_elim}
use mathlib.Core.List.{List, [], ◌∷◌, ◌++◌}
use Prim.Native.Nat.{ℕ, zero, suc, ◌+◌, ◌≤◌, ◌<◌}
use native.Mathlib.Omega.{arith}
use lib.Dec.{eqb, leb}
use lib.ListN.{length, take}
use lib.Seq.{take-suc, take-length}
use borrow.Author.Tests.{eqb-true, eqb-false, eq-eqb, ne_eqb, leb-true, le-leb, lt-leb, not-true}
use Rattle.counting.specs.Words.{one}
use Rattle.counting.specs.Lists.{at, has, distinct, sum}
use Rattle.counting.proofs.Refusals.{or_right, or-neither}

-- what holds of both sides of a choice holds of the choice; each side may use the test's outcome
pub cond-at {ℓ κ} : {A : Type ℓ} (P : A → Type κ) (t : Bool) {x y : A} → (t ≡ true → P x) → (t ≡ false → P y) → P (cond t x y)
cond-at P true h k = h refl
cond-at P false h k = k refl

-- one of two tests holds where they hold together as an `or`
pub or_cases : (s t : Bool) → s || t ≡ true → (s ≡ true) ⊎ (t ≡ true)
or_cases true t e = inl refl
or_cases false t e = inr e

-- a test counts for at most 1
one-le : (t : Bool) → one t ≤ 1
one-le true = omega arith
one-le false = omega arith

-- a test counts, or else its opposite does
pub one-not : (t : Bool) → one t + one (not t) ≡ 1
one-not true = refl
one-not false = refl

-- a test that holds wherever another does counts for no less
pub one_more : (s t : Bool) → (s ≡ true → t ≡ true) → one s ≤ one t
one_more true t h = rw (h refl) (omega arith)
one_more false t h = omega arith

-- two tests that never hold together count for no more than their `or`
one-or : (s t : Bool) → (s ≡ true → t ≡ false) → one s + one t ≤ one (s || t)
one-or true t h = rw (h refl) (omega arith)
one-or false t h = omega arith

-- a number stands at the head of a list
pub has-head : (a : ℕ) (S : List ℕ) → has a (a ∷ S) ≡ true
has-head a S = rw (eq-eqb a a refl)

-- a number of the tail stands in the list
pub has-tail : (a b : ℕ) (S : List ℕ) → has a S ≡ true → has a (b ∷ S) ≡ true
has-tail a b S = or_right (eqb a b) (has a S)

-- a number stands in two lists joined where it stands in one of them
pub has-append : (a : ℕ) (S T : List ℕ) → has a (S ++ T) ≡ (has a S || has a T)
has-append a [] T = refl
has-append a (b ∷ S) T = rw (has-append a S T, or_assoc)

-- a number that stands in a list joined with one more site is of the list or is that site
pub has_last : (a b : ℕ) (S : List ℕ) → has a (S ++ (b ∷ [])) ≡ true → (has a S ≡ true) ⊎ (a ≡ b)
has_last a b S h = ⊎_elim inl (λ e. inr (eqb-true a b (rw or-false at e))) (or_cases (has a S) (has a (b ∷ [])) (rw has-append at h))

-- a list with no number twice still has none twice once others, which are different too, are put behind it
pub distinct_append : (S T : List ℕ) → distinct S ≡ true → distinct T ≡ true → ((a : ℕ) → has a S ≡ true → has a T ≡ false) → distinct (S ++ T) ≡ true
distinct_append [] T d e o = e
distinct_append (a ∷ S) T d e o =
    let (new, apart) = (and-eq-true_iff (not (has a S)) (distinct S)).0 d in
    let here : has a (S ++ T) ≡ false = rw (has-append a S T, not-true (has a S) new, o a (has-head a S)) refl in
    rw here (distinct_append S T apart e (λ b h. o b (has-tail b a S h)))

-- or one new number
pub distinct-last : (a : ℕ) (S : List ℕ) → distinct S ≡ true → has a S ≡ false → distinct (S ++ (a ∷ [])) ≡ true
distinct-last a S d h = distinct_append S (a ∷ []) d refl (λ b i. rw (ne_eqb b a (λ e. true≢false (sym i ∙ ap (λ (x : ℕ). has x S) e ∙ h))) refl)

-- a sum of numbers that are no greater is no greater
pub sum-le : (f g : ℕ → ℕ) (S : List ℕ) → ((a : ℕ) → has a S ≡ true → f a ≤ g a) → sum f S ≤ sum g S
sum-le f g [] le = omega arith
sum-le f g (b ∷ S) le = omega (arith, le b (has-head b S), sum-le f g S (λ a i. le a (has-tail a b S i)))

-- and is less where one of the numbers is less
pub sum_less : (f g : ℕ → ℕ) (S : List ℕ) → ((a : ℕ) → has a S ≡ true → f a ≤ g a) → (b : ℕ) → has b S ≡ true → f b < g b → sum f S < sum g S
sum_less f g [] le b i l = absurd (true≢false (sym i))
sum_less f g (a ∷ S) le b i l =
    let rest : (c : ℕ) → has c S ≡ true → f c ≤ g c = λ c j. le c (has-tail c a S j) in
    ⊎_elim (λ e. omega (arith, rw (eqb-true b a e) at l, sum-le f g S rest)) (λ j. omega (arith, le a (has-head a S), sum_less f g S rest b j l))
    (or_cases (eqb b a) (has b S) i)

-- two sums come to no more than a third where the numbers do
pub sum-two : (f g h : ℕ → ℕ) (S : List ℕ) → ((a : ℕ) → has a S ≡ true → f a + g a ≤ h a) → sum f S + sum g S ≤ sum h S
sum-two f g h [] le = omega arith
sum-two f g h (b ∷ S) le = omega (arith, le b (has-head b S), sum-two f g h S (λ a i. le a (has-tail a b S i)))

-- the entries of a list that pass a test are no more than its entries
pub sum-length : (test : ℕ → Bool) (S : List ℕ) → sum (λ a. one (test a)) S ≤ length S
sum-length test [] = omega arith
sum-length test (a ∷ S) = omega (arith, one-le (test a), sum-length test S)

-- where a site m + 1 stands in a list, more of its entries are at most m + 1 than at most m
upto-less : (m : ℕ) (S : List ℕ) → has (suc m) S ≡ true → sum (λ b. one (leb b m)) S < sum (λ b. one (leb b (suc m))) S
upto-less m S e =
    sum_less _ _ S (λ b i. one_more (leb b m) (leb b (suc m)) (λ l. le-leb b (suc m) (omega (arith, leb-true b m l)))) (suc m) e
    (rw (lt-leb (suc m) m (omega arith), le-leb (suc m) (suc m) (omega arith)) (omega arith))

-- where fewer than m entries of a list are at most m, one of the sites 1 to m does not stand in it
left : (m : ℕ) (S : List ℕ) → sum (λ b. one (leb b m)) S < m → (a : ℕ) × (0 < a) × (a ≤ m) × (has a S ≡ false)
left zero S h = absurd (omega arith)
left (suc m) S h =
    ⊎_elim (λ e. (suc m, omega arith, omega arith, e))
    (λ e. let (a, low, high, out) = left m S (omega (arith, upto-less m S e)) in (a, low, omega arith, out)) (dichotomy (has (suc m) S))

-- while a list is shorter than m, one of the sites 1 to m does not stand in it
pub some_left : (m : ℕ) (S : List ℕ) → length S < m → (a : ℕ) × (0 < a) × (a ≤ m) × (has a S ≡ false)
some_left m S h = left m S (omega (arith, sum-length (λ b. leb b m) S))

-- a new number in front of a list: each number is that one or stands in the list, and not both
one-new : (a : ℕ) (R : List ℕ) → has a R ≡ false → (z : ℕ) → one (eqb z a) + one (has z R) ≤ one (has z (a ∷ R))
one-new a R new z = one-or (eqb z a) (has z R) (λ e. rw (eqb-true z a e) new)

-- a list with no number twice, each of whose numbers stands in a second, is no longer than the entries of the second that stand in it
pub distinct-within : (R Z : List ℕ) → distinct R ≡ true → ((a : ℕ) → has a R ≡ true → has a Z ≡ true) → length R ≤ sum (λ z. one (has z R)) Z
distinct-within [] Z d h = omega arith
distinct-within (a ∷ R) Z d h =
    let (new, apart) = (and-eq-true_iff (not (has a R)) (distinct R)).0 d in
    let own : 0 < one (eqb a a) = rw (eq-eqb a a refl) (omega arith) in
    omega (
      arith,
      sum_less (λ z. 0) (λ z. one (eqb z a)) Z (λ z i. omega arith) a (h a (has-head a R)) own,
      distinct-within R Z apart (λ z i. h z (has-tail z a R i)),
      sum-two _ _ (λ z. one (has z (a ∷ R))) Z (λ z i. one-new a R (not-true (has a R) new) z),
    )

-- a number that stands at no index does not stand in the list
pub has-none : (a : ℕ) (L : List ℕ) → ((i : ℕ) → i < length L → eqb (at L i) a ≡ false) → has a L ≡ false
has-none a [] h = refl
has-none a (b ∷ L) h =
    or-neither (eqb a b) (has a L) (ne_eqb a b (λ e. eqb-false b a (h 0 (omega arith)) (sym e))) (has-none a L (λ i l. h (suc i) (omega arith)))

-- where no number stands before itself, none stands twice
apart-upto : (S : List ℕ) → ((i : ℕ) → i < length S → has (at S i) (take i S) ≡ false) → (j : ℕ) → j ≤ length S → distinct (take j S) ≡ true
apart-upto S h zero l = refl
apart-upto S h (suc j) l = rw (take-suc S j 0 l) (distinct-last (at S j) (take j S) (apart-upto S h j (omega arith)) (h j l))

pub apart : (S : List ℕ) → ((i : ℕ) → i < length S → has (at S i) (take i S) ≡ false) → distinct S ≡ true
apart S h = rw take-length at (apart-upto S h (length S) (omega arith))
