-- Laws of tables by rows and columns, and the pigeonhole over an index.
-- Assumes nothing.
use mathlib.Core.Path.{◌≡◌, refl, sym, ◌∙◌}
use mathlib.Core.Bool.{true, false}
use mathlib.Core.Logic.{◌≢◌, by_cases}
use mathlib.Core.List.{List}
use Prim.Native.Nat.{ℕ, zero, suc, ◌+◌, ◌*◌, ◌≤◌, ◌<◌}
use native.Mathlib.Nat.{mul-le-mul_right}
use native.Mathlib.Decide.{dec_lt}
use native.Mathlib.Omega.{arith}
use lib.Dec.{eqb}
use lib.ListN.{length}
use borrow.Author.Tests.{ne_eqb}
use Rattle.counting.specs.Lists.{at, has, distinct}
use Rattle.counting.specs.Buffers.{joined, list_of}
use Rattle.counting.proofs.Membership.{has-none, distinct-last, distinct-within, sum-length}
use Rattle.counting.proofs.Sums.{list_of-length, list_of-at, has-at, has-index}

-- a row of a table ends within the table
pub row_within : (n w s : ℕ) → s < n → s * w + w ≤ n * w
row_within n w s l = omega (arith, mul-le-mul_right {m = s + 1} {n = n} w (omega arith))

-- so does each column of it
pub in_rows : (s n w b : ℕ) → s < n → b < w → s * w + b < n * w
in_rows s n w b l m = omega (arith, row_within n w s l)

-- entries of an earlier row and of a later row stand at different indices
earlier-row : (n a b s t : ℕ) → s < n → t < n → a < b → a * n + s ≢ b * n + t
earlier-row n a b s t l k u e = omega (arith, row_within b n a u)

-- so do entries of any two rows
pub rows_apart : (n a b s t : ℕ) → s < n → t < n → a ≢ b → a * n + s ≢ b * n + t
rows_apart n a b s t l k d e =
    by_cases (dec_lt a b) (λ u. earlier-row n a b s t l k u e) (λ u. earlier-row n b a t s k l (omega arith) (sym e))

module _ (n : ℕ) (f : ℕ → ℕ) where
  -- a number that is none of f 0, f 1, .. does not stand in their list
  list_of-none : (x : ℕ) → ((i : ℕ) → i < n → f i ≢ x) → (i : ℕ) → i < length (list_of n f) → eqb (at (list_of n f) i) x ≡ false
  list_of-none x d i l =
      let m : i < n = omega (arith, list_of-length n f) in
      rw (list_of-at n f i m) (ne_eqb (f i) x (d i m))

  -- one that is f i does
  list_of-has : (i : ℕ) → i < n → has (f i) (list_of n f) ≡ true
  list_of-has i l = rw (list_of-at n f i l) at (has-at (list_of n f) i (omega (arith, list_of-length n f)))

-- different numbers make a list without one twice
list_of-distinct : (n : ℕ) (f : ℕ → ℕ) → ((i j : ℕ) → i < j → j < n → f i ≢ f j) → distinct (list_of n f) ≡ true
unfolding joined
list_of-distinct zero f d = refl
list_of-distinct (suc n) f d =
    let new : has (f n) (list_of n f) ≡ false = has-none (f n) (list_of n f) (list_of-none n f (f n) (λ i l. d i n l (omega arith))) in
    distinct-last (f n) (list_of n f) (list_of-distinct n f (λ i j l m. d i j l (omega arith))) new

-- n different numbers below m are at most m
pub pigeon : (m n : ℕ) (f : ℕ → ℕ) → ((i j : ℕ) → i < j → j < n → f i ≢ f j) → ((i : ℕ) → i < n → f i < m) → n ≤ m
pigeon m n f d b =
    let R : List ℕ = list_of n f in
    let Z : List ℕ = list_of m (λ i. i) in
    omega
    (arith, list_of-length n f, list_of-length m (λ i. i), distinct-within R Z (list_of-distinct n f d) inside, sum-length (λ z. has z R) Z)
  where
    inside : (a : ℕ) → has a (list_of n f) ≡ true → has a (list_of m (λ i. i)) ≡ true
    inside a h =
        let (i, l, e) = has-index a (list_of n f) h in
        let k : i < n = omega (arith, list_of-length n f) in
        let q : f i ≡ a = sym (list_of-at n f i k) ∙ e in
        rw q at (list_of-has m (λ i. i) (f i) (b i k))
