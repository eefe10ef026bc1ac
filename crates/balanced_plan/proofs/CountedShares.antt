-- A division in which r sites have q + 1 streets and k - r have q, for n = q k + r, is one in the shares of some list of k sites: first those with
-- q + 1 streets, then those with q. No other site has a street.
-- Assumes nothing.
use mathlib.Core.Path.{◌≡◌, refl, sym, ap, ◌∙◌}
use mathlib.Core.Bool.{Bool, true, false, true≢false}
use mathlib.Mathlib.Data.Bool.Basic.{dichotomy}
use mathlib.Core.Logic.{⊎_elim, by_cases}
use mathlib.Core.List.{List, [], ◌∷◌, ◌++◌}
use Prim.Native.Nat.{ℕ, zero, suc, ◌+◌, ◌-◌, ◌≤◌, ◌<◌}
use native.Mathlib.Nat.{eq-zero-or-pos}
use native.Mathlib.Decide.{dec_lt}
use native.Mathlib.Omega.{arith}
use lib.Dec.{eqb}
use lib.ListN.{length, length-append}
use borrow.Author.Tests.{eqb-true}
use Rattle.counting.specs.Words.{one, sum_of, count_of}
use Rattle.counting.specs.Lists.{has, distinct, count, sum, only}
use Rattle.counting.specs.Sites.{Sites, Choice}
use Rattle.counting.proofs.Sums.{sum_of-tight}
use Rattle.counting.proofs.Listed.{only-has, only-length, only-distinct, count-has}
use Rattle.counting.proofs.Membership.{has-append, or_cases, distinct_append}
use Rattle.shares.specs.Rounds.{least_share, larger_shares, round_share}
use Rattle.shares.proofs.Sums.{shares-all, larger-few, share-larger, share-least}
use Rattle.division.specs.Shares.{share_among, shares_of, InShares}
use Rattle.division.proofs.Counts.{count-sum}
use Rattle.division.proofs.Shared.{among_none, among-front, among-all, among-behind, among-sum, shares-are}

-- ---- the sites m, m - 1, .., 1
abbrev numbers : ℕ → List ℕ
numbers zero = []
numbers (suc m) = suc m ∷ numbers m

numbers-within : (m : ℕ) → Sites m (numbers m)
numbers-within zero a h = absurd (true≢false (sym h))
numbers-within (suc m) a h =
    ⊎_elim (λ e. omega (arith, eqb-true a (suc m) e)) (λ i. omega (arith, numbers-within m a i)) (or_cases (eqb a (suc m)) (has a (numbers m)) h)

numbers_apart : (m : ℕ) → distinct (numbers m) ≡ true
numbers_apart zero = refl
numbers_apart (suc m) = rw (⊎_elim (λ o. o) (λ y. absurd (omega (arith, numbers-within m (suc m) y))) (dichotomy (has (suc m) (numbers m)))) (numbers_apart m)

-- of them as many pass a test as it counts
numbers-length : (m : ℕ) (test : ℕ → Bool) → sum (λ a. one (test a)) (numbers m) ≡ count_of m (λ i. test (suc i))
numbers-length zero test = refl
numbers-length (suc m) test = omega (arith, numbers-length m test)

-- ---- the division
module _ (n m k : ℕ) (D : List ℕ) (some : 0 < k) (size : length D ≡ n) (within : Sites m D)
    (larger : count_of m (λ i. eqb (suc (least_share n k)) (count D (suc i))) ≡ larger_shares n k)
    (least : count_of m (λ i. eqb (least_share n k) (count D (suc i))) ≡ k - larger_shares n k) where
  -- its sites with a number of streets
  abbrev having : ℕ → List ℕ
  having x = only (λ a. eqb x (count D a)) (numbers m)

  having-length : (x : ℕ) → length (having x) ≡ count_of m (λ i. eqb x (count D (suc i)))
  having-length x = only-length (λ a. eqb x (count D a)) (numbers m) ∙ numbers-length m (λ a. eqb x (count D a))

  having-count : (x a : ℕ) → has a (having x) ≡ true → count D a ≡ x
  having-count x a h = sym (eqb-true x (count D a) (only-has (λ a. eqb x (count D a)) a (numbers m) h).1)

  having-within : (x : ℕ) → Sites m (having x)
  having-within x a h = numbers-within m a (only-has (λ a. eqb x (count D a)) a (numbers m) h).0

  -- those with q + 1, then those with q
  abbrev q : ℕ
  q = least_share n k

  abbrev r : ℕ
  r = larger_shares n k

  abbrev listed : List ℕ
  listed = having (suc q) ++ having q

  listed-size : length listed ≡ k
  listed-size =
      omega (arith, length-append (having (suc q)) (having q), having-length (suc q), having-length q, larger, least, larger-few n k some)

  -- none stands in both
  not-both : (a : ℕ) → has a (having (suc q)) ≡ true → has a (having q) ≡ false
  not-both a h =
      ⊎_elim (λ o. o) (λ y. absurd (omega (arith, having-count (suc q) a h, having-count q a y))) (dichotomy (has a (having q)))

  listed-choice : Choice m k listed
  listed-choice = record {
    sites = λ a h. ⊎_elim (having-within (suc q) a) (having-within q a) (or_cases (has a (having (suc q))) (has a (having q)) (sym (has-append a (having (suc q)) (having q)) ∙ h));
    apart = distinct_append (having (suc q)) (having q) (only-distinct _ (numbers m) (numbers_apart m)) (only-distinct _ (numbers m) (numbers_apart m)) not-both;
    size = listed-size;
  }

  -- a listed site has just its share of the streets, and any other no less than none
  listed-share : (a : ℕ) → share_among (round_share n k) listed a ≤ count D a
  listed-share a = ⊎_elim (λ o. ⊎_elim (λ p. none o p) (λ y. second o y) (dichotomy (has a (having q)))) first (dichotomy (has a (having (suc q))))
    where
      first : has a (having (suc q)) ≡ true → share_among (round_share n k) listed a ≤ count D a
      first y =
          let here = among-front a (round_share n k) (having (suc q)) (having q) y
          ∙ among-all a (round_share n k) (having (suc q)) (q + 1) y (λ i l. share-larger n k i (omega (arith, having-length (suc q), larger))) in
          omega (arith, here, having-count (suc q) a y)

      second : has a (having (suc q)) ≡ false → has a (having q) ≡ true → share_among (round_share n k) listed a ≤ count D a
      second o y =
          let here = among-behind a (round_share n k) (having (suc q)) (having q) q o y (λ i l u. share-least n k i (omega (arith, having-length (suc q), larger))) in
          omega (arith, here, having-count q a y)

      none : has a (having (suc q)) ≡ false → has a (having q) ≡ false → share_among (round_share n k) listed a ≤ count D a
      none o p = omega (arith, among_none (round_share n k) listed a (rw (has-append a (having (suc q)) (having q), o, p) refl))

  -- but all streets are at the listed sites, whose shares they are
  as-shared : (i : ℕ) → i < m → share_among (round_share n k) listed (suc i) ≡ count D (suc i)
  as-shared = sum_of-tight m _ _ (λ i l. listed-share (suc i)) (omega (arith, count-sum m D within, size, shared))
    where
      shared : sum_of m (λ i. share_among (round_share n k) listed (suc i)) ≡ n
      shared =
          among-sum (round_share n k) listed m listed-choice.sites listed-choice.apart
          ∙ ap (λ (j : ℕ). sum_of j (round_share n k)) listed-size ∙ shares-all n k some

  -- so it is a division in the shares of these sites
  listed-shares : InShares D (shares_of (round_share n k) listed m)
  listed-shares a = sym (shares-are (round_share n k) listed m listed-choice.sites a ∙ same a)
    where
      out : (a : ℕ) → ((0 < a) × (a ≤ m) → ⊥) → share_among (round_share n k) listed a ≡ count D a
      out a away =
          let none : count D a ≡ 0 = ⊎_elim (λ z. z) (λ y. absurd (away (within a (count-has D a y)))) (eq-zero-or-pos (count D a)) in
          omega (arith, none, listed-share a)

      same : (a : ℕ) → share_among (round_share n k) listed a ≡ count D a
      same zero = out 0 (λ l. omega arith)
      same (suc i) = by_cases (dec_lt i m) (as-shared i) (λ o. out (suc i) (λ l. omega arith))

  pub by-counts : (sites : List ℕ) × Choice m k sites × InShares D (shares_of (round_share n (length sites)) sites m)
  by-counts = (listed, listed-choice, rw listed-size listed-shares)
