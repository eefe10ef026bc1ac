-- Laws of shares that are made from a list of chosen sites: the share of each site, and what the shares sum to.
-- Assumes nothing.
use mathlib.Core.Path.{◌≡◌, refl, sym, ap, ◌∙◌}
use mathlib.Core.Bool.{true, false, not, true≢false, and-eq-true_iff}
use mathlib.Mathlib.Data.Bool.Basic.{dichotomy, or-eq-false-eq-eq-false-and-eq-false}
use mathlib.Core.Logic.{◌≢◌, ⊎_elim, by_cases}
use mathlib.Core.List.{List, [], ◌∷◌, ◌++◌}
use Prim.Native.Nat.{ℕ, zero, suc, ◌+◌, ◌≤◌, ◌<◌}
use native.Mathlib.Nat.{suc_inj, le_of_suc-le-suc}
use native.Mathlib.Decide.{dec_lt}
use native.Mathlib.Omega.{arith}
use lib.Dec.{eqb}
use lib.ListN.{length, get_or-eq_default}
use borrow.Author.Tests.{eq-eqb, ne_eqb, eqb-true, eqb-false, not-true}
use Rattle.counting.specs.Words.{one, sum_of, count_of}
use Rattle.counting.specs.Lists.{at, has, distinct}
use Rattle.counting.specs.Buffers.{joined, list_of}
use Rattle.counting.specs.Sites.{Sites}
use Rattle.counting.proofs.Membership.{has-head, has-tail}
use Rattle.division.specs.Shares.{share, share_among, shares_of, share_sum}
use Rattle.counting.proofs.Sums.{list_of-length, list_of-at, sum_of-same, sum_of-more, sum_of-front, sum_of-even, has-at}

-- one site more at the end of the shares adds its share to their sum
share_sum-last : (c : List ℕ) (x : ℕ) → share_sum (c ++ (x ∷ [])) ≡ share_sum c + x
share_sum-last [] x = omega arith
share_sum-last (y ∷ c) x = omega (arith, share_sum-last c x)

-- shares made by a function sum to its sum
share_sum-list_of : (n : ℕ) (f : ℕ → ℕ) → share_sum (list_of n f) ≡ sum_of n f
unfolding joined
share_sum-list_of zero f = refl
share_sum-list_of (suc n) f = omega (arith, share_sum-last (list_of n f) (f n), share_sum-list_of n f)

-- a site that is not chosen has no share
pub among_none : (q : ℕ → ℕ) (chosen : List ℕ) (a : ℕ) → has a chosen ≡ false → share_among q chosen a ≡ 0
among_none q [] a h = refl
among_none q (b ∷ chosen) a h =
    let (e, o) = (or-eq-false-eq-eq-false-and-eq-false (eqb a b) (has a chosen)).0 h in
    rw (ne_eqb b a (λ p. eqb-false a b e (sym p))) (among_none (λ i. q (suc i)) chosen a o)

-- nor has a number that is none of the sites 1 to m
among-out : (q : ℕ → ℕ) (chosen : List ℕ) (m : ℕ) → Sites m chosen → (a : ℕ) → ((0 < a) × (a ≤ m) → ⊥) → share_among q chosen a ≡ 0
among-out q chosen m w a n = ⊎_elim (among_none q chosen a) (λ e. absurd (n (w a e))) (dichotomy (has a chosen))

-- the i-th of different sites has the i-th share
pub among-at : (q : ℕ → ℕ) (chosen : List ℕ) (i : ℕ) → distinct chosen ≡ true → i < length chosen → share_among q chosen (at chosen i) ≡ q i
among-at q [] i d l = absurd (omega arith)
among-at q (b ∷ chosen) zero d l = rw (eq-eqb b b refl)
among-at q (b ∷ chosen) (suc i) d l =
    let (new, apart) = (and-eq-true_iff (not (has b chosen)) (distinct chosen)).0 d in
    let other : b ≢ at chosen i = λ e. true≢false (sym (has-at chosen i (le_of_suc-le-suc l)) ∙ rw e at (not-true (has b chosen) new)) in
    rw (ne_eqb b (at chosen i) other) (among-at (λ i. q (suc i)) chosen i apart (le_of_suc-le-suc l))

-- ---- shares among a list behind another
module _ (a : ℕ) where
  -- a site of the first list has its share from there
  pub among-front : (f : ℕ → ℕ) (S T : List ℕ) → has a S ≡ true → share_among f (S ++ T) a ≡ share_among f S a
  among-front f [] T h = absurd (true≢false (sym h))
  among-front f (b ∷ S) T h =
      ⊎_elim (λ o. rw (ne_eqb b a (λ e. eqb-false a b o (sym e))) (among-front (λ i. f (suc i)) S T (other o))) (λ y. rw (eq-eqb b a (sym (eqb-true a b y))) refl)
      (dichotomy (eqb a b))
    where
      other : eqb a b ≡ false → has a S ≡ true
      other o = rw o at h

  -- where all have the same share, a listed site has it
  pub among-all : (f : ℕ → ℕ) (S : List ℕ) (x : ℕ) → has a S ≡ true → ((i : ℕ) → i < length S → f i ≡ x) → share_among f S a ≡ x
  among-all f [] x h same = absurd (true≢false (sym h))
  among-all f (b ∷ S) x h same =
      ⊎_elim (λ o. rw (ne_eqb b a (λ e. eqb-false a b o (sym e))) (among-all (λ i. f (suc i)) S x (other o) (λ i l. same (suc i) (omega arith))))
      (λ y. rw (eq-eqb b a (sym (eqb-true a b y))) (same 0 (omega arith))) (dichotomy (eqb a b))
    where
      other : eqb a b ≡ false → has a S ≡ true
      other o = rw o at h

  -- and so has one of the second list, where all of that have the same share
  pub among-behind : (f : ℕ → ℕ) (S T : List ℕ) (x : ℕ) → has a S ≡ false → has a T ≡ true
      → ((i : ℕ) → length S ≤ i → i < length S + length T → f i ≡ x) → share_among f (S ++ T) a ≡ x
  among-behind f [] T x h y same = among-all f T x y (λ i l. same i (omega arith) (omega arith))
  among-behind f (b ∷ S) T x h y same =
      let (o, rest) = (or-eq-false-eq-eq-false-and-eq-false (eqb a b) (has a S)).0 h in
      rw (ne_eqb b a (λ e. eqb-false a b o (sym e)))
      (among-behind (λ i. f (suc i)) S T x rest y (λ i l u. same (suc i) (omega arith) (omega arith)))

-- ---- shares of the sites 1 to m
-- there is a share for each site
pub shares-length : (q : ℕ → ℕ) (chosen : List ℕ) (m : ℕ) → length (shares_of q chosen m) ≡ m
shares-length q chosen m = list_of-length m (λ i. share_among q chosen (suc i))

-- each site has the share that it has among the chosen ones
pub shares-are : (q : ℕ → ℕ) (chosen : List ℕ) (m : ℕ) → Sites m chosen → (x : ℕ) → share (shares_of q chosen m) x ≡ share_among q chosen x
unfolding share
shares-are q chosen m w zero = sym (among-out q chosen m w 0 (λ l. omega arith))
shares-are q chosen m w (suc i) =
    let past : ¬ (i < m) → length (shares_of q chosen m) ≤ i = λ n. omega (arith, shares-length q chosen m) in
    let none : ¬ (i < m) → share_among q chosen (suc i) ≡ 0 = λ n. among-out q chosen m w (suc i) (λ l. omega arith) in
    by_cases (dec_lt i m) (list_of-at m _ i) (λ n. get_or-eq_default (shares_of q chosen m) 0 (past n) ∙ sym (none n))

-- over the sites 1 to m, whatever is counted of a share, but nothing of none, is as much as over the chosen ones
among-over : (f : ℕ → ℕ) → f 0 ≡ 0 → (q : ℕ → ℕ) (chosen : List ℕ) (m : ℕ) → Sites m chosen → distinct chosen ≡ true
    → sum_of m (λ i. f (share_among q chosen (suc i))) ≡ sum_of (length chosen) (λ i. f (q i))
among-over f z q [] m w d = sum_of-same m _ (λ i. 0) (λ i l. z) ∙ omega (arith, sum_of-even m 0)
among-over f z q (zero ∷ chosen) m w d = absurd (omega (arith, w 0 refl))
among-over f z q (suc b ∷ chosen) m w d =
    let (new, apart) = (and-eq-true_iff (not (has (suc b) chosen)) (distinct chosen)).0 d in
    let more : ℕ → ℕ = λ i. f (share_among (λ i. q (suc i)) chosen (suc i)) in
    let none : more b ≡ 0 = ap f (among_none (λ i. q (suc i)) chosen (suc b) (not-true (has (suc b) chosen) new)) ∙ z in
    let here : f (share_among q (suc b ∷ chosen) (suc b)) ≡ more b + f (q 0) = rw (eq-eqb (suc b) (suc b) refl) (omega arith) in
    let other : (i : ℕ) → i ≢ b → f (share_among q (suc b ∷ chosen) (suc i)) ≡ more i = λ i n. rw (ne_eqb (suc b) (suc i) (λ e. n (sym (suc_inj e)))) in
    let again = among-over f z (λ i. q (suc i)) chosen m (λ a h. w a (has-tail a (suc b) chosen h)) apart in
    let fits : b < m = (w (suc b) (has-head (suc b) chosen)).1 in
    omega (
      arith,
      again,
      sum_of-front (length chosen) (λ i. f (q i)),
      sum_of-more m (λ i. f (share_among q (suc b ∷ chosen) (suc i))) more b (f (q 0)) fits here other,
    )

-- they have together what the chosen ones have
pub among-sum : (q : ℕ → ℕ) (chosen : List ℕ) (m : ℕ) → Sites m chosen → distinct chosen ≡ true
    → sum_of m (λ i. share_among q chosen (suc i)) ≡ sum_of (length chosen) q
among-sum = among-over (λ x. x) refl

-- and as many have a share, above 0, as of the chosen ones have it
pub share-count : (x : ℕ) → 0 < x → (q : ℕ → ℕ) (chosen : List ℕ) (m : ℕ) → Sites m chosen → distinct chosen ≡ true
    → count_of m (λ i. eqb x (share_among q chosen (suc i))) ≡ count_of (length chosen) (λ i. eqb x (q i))
share-count x l = among-over (λ y. one (eqb x y)) (ap one (ne_eqb x 0 (λ e. omega arith)))

-- of the sites 1 to m as many stand in a list of different ones as it has
pub listed-count : (chosen : List ℕ) (m : ℕ) → Sites m chosen → distinct chosen ≡ true → count_of m (λ i. has (suc i) chosen) ≡ length chosen
listed-count chosen m w d = sum_of-same m _ _ (λ i l. share-one (suc i)) ∙ among-sum (λ i. 1) chosen m w d ∙ omega (arith, sum_of-even (length chosen) 1)
  where
    share-one : (a : ℕ) → one (has a chosen) ≡ share_among (λ i. 1) chosen a
    share-one a = ⊎_elim (λ o. rw o (sym (among_none (λ i. 1) chosen a o))) (λ y. rw y (sym (among-all a (λ i. 1) chosen 1 y (λ i l. refl)))) (dichotomy (has a chosen))

-- the shares of different sites sum to what the chosen ones have
pub shares_sum : (q : ℕ → ℕ) (chosen : List ℕ) (m : ℕ) → Sites m chosen → distinct chosen ≡ true
    → share_sum (shares_of q chosen m) ≡ sum_of (length chosen) q
shares_sum q chosen m w d = share_sum-list_of m (λ i. share_among q chosen (suc i)) ∙ among-sum q chosen m w d
