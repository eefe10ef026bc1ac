-- Laws of divisions and shares: what a street takes from the shares, that any sum over the streets' sites depends on the shares alone, and
-- what a loop over the streets adds up. D is a division, c shares, d prices.
-- Assumes nothing.
use mathlib.Core.Path.{◌≡◌, refl, sym}
use mathlib.Core.Logic.{◌≢◌, ⊎_elim, by_cases}
use mathlib.Core.List.{List, [], ◌∷◌, ◌++◌}
use Prim.Native.Nat.{ℕ, zero, suc, ◌+◌, ◌*◌, ◌≤◌, ◌<◌, pred, suc-le-suc}
use native.Mathlib.Nat.{suc_inj, le_of_suc-le-suc, le_antisymm, le_of_eq, eq-or-lt_of_le}
use native.Mathlib.Decide.{dec_lt}
use native.Mathlib.Omega.{arith}
use lib.Dec.{eqb, eqb-zero-suc, eqb-suc-zero, eqb-suc-suc}
use lib.ListN.{length, take, set}
use borrow.Author.Tests.{eq-eqb, ne_eqb}
use Rattle.counting.specs.Words.{one, sum_of}
use Rattle.counting.specs.Lists.{at, count}
use Rattle.counting.specs.Buffers.{joined, list_of}
use Rattle.counting.specs.Sites.{Sites}
use Rattle.counting.proofs.Membership.{has-head, has-tail}
use Rattle.counting.proofs.Sums.{list_of-length, sum_of-more, sum_of-even}
use Rattle.division.specs.Shares.{share, less, InShares, division_total, dot, share_sum}

-- one of two numbers is less, or they are the same
pub by_order : {P : Type 0} (a b : ℕ) → (a < b → P) → (a ≡ b → P) → (b < a → P) → P
by_order a b less same more = by_cases (dec_lt a b) less (λ n. ⊎_elim (λ e. same (sym e)) more (eq-or-lt_of_le (omega arith)))

-- ---- one street less
-- a number of a list less one is one less, and the others stay
less-at : (c : List ℕ) (a x : ℕ) → 0 < at c a → at (set c a (pred (at c a))) x + one (eqb a x) ≡ at c x
less-at [] a x h = absurd (omega arith)
less-at (suc y ∷ c) zero zero h = omega arith
less-at (y ∷ c) zero (suc x) h = rw eqb-zero-suc (omega arith)
less-at (y ∷ c) (suc a) zero h = rw eqb-suc-zero (omega arith)
less-at (y ∷ c) (suc a) (suc x) h = rw eqb-suc-suc (less-at c a x h)
less-at (zero ∷ c) zero zero h = elim h [ ]

-- a site's share less one street is one less, and another site's share stays
pub share-less : (c : List ℕ) (a x : ℕ) → 0 < share c a → share (less c a) x + one (eqb a x) ≡ share c x
unfolding share less
share-less c zero x h = absurd (omega arith)
share-less c (suc a) zero h = rw eqb-suc-zero
share-less c (suc a) (suc x) h = rw eqb-suc-suc (less-at c a x h)

-- one street less takes the price of its site from the sum of share times price
pub dot-less : (d : ℕ → ℕ) (c : List ℕ) (a : ℕ) → 0 < share c a → d a + dot (less c a) d ≡ dot c d
unfolding share less
dot-less d c zero h = absurd (omega arith)
dot-less d [] (suc a) h = absurd (omega arith)
dot-less d (suc y ∷ c) (suc zero) h = omega arith
dot-less d (y ∷ c) (suc (suc a)) h = omega (arith, dot-less (λ a. d (suc a)) c (suc a) h)
dot-less d (zero ∷ c) (suc zero) h = elim h [ ]

-- only a site of the list can have a share
pub share-fits : (c : List ℕ) (a : ℕ) → 0 < share c a → a ≤ length c
unfolding share
share-fits c zero h = omega arith
share-fits [] (suc a) h = absurd (omega arith)
share-fits (y ∷ c) (suc zero) h = omega arith
share-fits (y ∷ c) (suc (suc a)) h = omega (arith, share-fits c (suc a) h)

-- where no site has a share, the sum of share times price is 0
dot-none : (d : ℕ → ℕ) (c : List ℕ) → ((a : ℕ) → share c (suc a) ≡ 0) → dot c d ≡ 0
unfolding share
dot-none d [] h = refl
dot-none d (y ∷ c) h = rw (h 0) (omega (arith, dot-none (λ a. d (suc a)) c (λ a. h (suc a))))

-- where the shares sum to 0, no site has one
pub share-none : (c : List ℕ) → share_sum c ≡ 0 → (a : ℕ) → share c a ≡ 0
unfolding share
share-none c h zero = refl
share-none [] h (suc a) = refl
share-none (y ∷ c) h (suc zero) = omega arith
share-none (y ∷ c) h (suc (suc a)) = share-none c (omega arith) (suc a)

-- where they do not, some site has one
pub share-some : (c : List ℕ) → 0 < share_sum c → (a : ℕ) × (0 < share c (suc a))
unfolding share
share-some [] h = absurd (omega arith)
share-some (suc y ∷ c) h = (0, omega arith)
share-some (zero ∷ c) h = let (a, l) = share-some c (omega arith) in (suc a, l)

-- ---- totals
-- a total is at most another where no street gives its site more
pub division_total-le : (v w : ℕ → ℕ → ℕ) (D : List ℕ) → ((s : ℕ) → s < length D → v s (at D s) ≤ w s (at D s)) → division_total v D ≤ division_total w D
unfolding division_total
division_total-le v w [] h = omega arith
division_total-le v w (a ∷ D) h =
    omega (arith, h 0 (omega arith), division_total-le (λ s. v (suc s)) (λ s. w (suc s)) D (λ s l. h (suc s) (suc-le-suc l)))

-- it is the same where each street gives its site the same
pub division_total-same : (v w : ℕ → ℕ → ℕ) (D : List ℕ) → ((s : ℕ) → s < length D → v s (at D s) ≡ w s (at D s)) → division_total v D ≡ division_total w D
division_total-same v w D h =
    le_antisymm (division_total-le v w D (λ s l. le_of_eq (h s l))) (division_total-le w v D (λ s l. le_of_eq (sym (h s l))))

-- where each street gives x, it is x for each street
pub division_total-even : (x : ℕ) (D : List ℕ) → division_total (λ s a. x) D ≡ length D * x
unfolding division_total
division_total-even x [] = omega arith
division_total-even x (a ∷ D) = omega (arith, division_total-even x D)

-- where none gives more than x, it is at most that
pub division_total-bound : (v : ℕ → ℕ → ℕ) (x : ℕ) (D : List ℕ) → ((s : ℕ) → s < length D → v s (at D s) ≤ x) → division_total v D ≤ length D * x
division_total-bound v x D h = omega (arith, division_total-le v (λ s a. x) D h, division_total-even x D)

-- one street more, as a loop over the streets adds it
pub division_total-suc : (v : ℕ → ℕ → ℕ) (D : List ℕ) (s : ℕ) → s < length D
    → division_total v (take (suc s) D) ≡ division_total v (take s D) + v s (at D s)
unfolding division_total
division_total-suc v [] s l = absurd (omega arith)
division_total-suc v (a ∷ D) zero l = omega arith
division_total-suc v (a ∷ D) (suc s) l = omega (arith, division_total-suc (λ s. v (suc s)) D s (le_of_suc-le-suc l))

-- how often a site stands in a division is a total: 1 for each street of the site
pub count-total : (D : List ℕ) (x : ℕ) → count D x ≡ division_total (λ s a. one (eqb a x)) D
unfolding count division_total
count-total [] x = refl
count-total (a ∷ D) x = rw (count-total D x)

-- one street more
pub count-suc : (D : List ℕ) (s x : ℕ) → s < length D → count (take (suc s) D) x ≡ count (take s D) x + one (eqb (at D s) x)
count-suc D s x l = simp count-total (division_total-suc (λ s a. one (eqb a x)) D s l)

-- ---- a division in the shares
-- the site of the first street has a share
pub in_head : (a : ℕ) (D c : List ℕ) → InShares (a ∷ D) c → 0 < share c a
unfolding count
in_head a D c i = omega (arith, rw (eq-eqb a a refl) at (i a))

-- the other streets are in the shares less that one
pub in_tail : (a : ℕ) (D c : List ℕ) → InShares (a ∷ D) c → InShares D (less c a)
unfolding count
in_tail a D c i x = omega (arith, i x, share-less c a x (in_head a D c i))

-- and back
pub in-cons : (a : ℕ) (D c : List ℕ) → 0 < share c a → InShares D (less c a) → InShares (a ∷ D) c
unfolding count
in-cons a D c h i x = omega (arith, i x, share-less c a x h)

-- a sum of prices over the streets' sites depends on the shares alone
pub cost : (d : ℕ → ℕ) (D c : List ℕ) → InShares D c → division_total (λ s. d) D ≡ dot c d
unfolding division_total count
cost d [] c i = sym (dot-none d c (λ a. sym (i (suc a))))
cost d (a ∷ D) c i = omega (arith, cost d D (less c a) (in_tail a D c i), dot-less d c a (in_head a D c i))

-- a division in the shares has as many streets as the shares sum to
pub in-length : (D c : List ℕ) → InShares D c → length D ≡ share_sum c
in-length D c i = omega (arith, division_total-even 1 D, cost (λ a. 1) D c i)

-- the site of each street has a share
pub has-share : (D c : List ℕ) → InShares D c → (t : ℕ) → t < length D → 0 < share c (at D t)
has-share [] c i t l = absurd (omega arith)
has-share (a ∷ D) c i zero l = in_head a D c i
has-share (a ∷ D) c i (suc t) l =
    omega (arith, has-share D (less c a) (in_tail a D c i) t (le_of_suc-le-suc l), share-less c a (at D t) (in_head a D c i))

-- the total of a division with one street more
pub division_total-last : (v : ℕ → ℕ → ℕ) (D : List ℕ) (b : ℕ) → division_total v (D ++ (b ∷ [])) ≡ division_total v D + v (length D) b
unfolding division_total
division_total-last v [] b = omega arith
division_total-last v (a ∷ D) b = omega (arith, division_total-last (λ s. v (suc s)) D b)

-- the total of a division is the sum over the streets of the score that each gives its site
pub division_total-sum : (v : ℕ → ℕ → ℕ) (n : ℕ) (g : ℕ → ℕ) → division_total v (list_of n g) ≡ sum_of n (λ s. v s (g s))
unfolding division_total joined
division_total-sum v zero g = refl
division_total-sum v (suc n) g =
    omega (arith, rw list_of-length at (division_total-last v (list_of n g) (g n)), division_total-sum v n g)

-- the streets of the sites 1 to m are all streets, where each goes to one of these
pub count-sum : (m : ℕ) (D : List ℕ) → Sites m D → sum_of m (λ i. count D (suc i)) ≡ length D
unfolding count
count-sum m [] w = omega (arith, sum_of-even m 0)
count-sum m (zero ∷ D) w = absurd (omega (arith, w 0 refl))
count-sum m (suc b ∷ D) w =
    let here : count (suc b ∷ D) (suc b) ≡ count D (suc b) + 1 = rw (eq-eqb (suc b) (suc b) refl) (omega arith) in
    let other : (i : ℕ) → i ≢ b → count (suc b ∷ D) (suc i) ≡ count D (suc i) = λ i n. rw (ne_eqb (suc b) (suc i) (λ e. n (sym (suc_inj e)))) (omega arith) in
    let again = count-sum m D (λ a h. w a (has-tail a (suc b) D h)) in
    omega (arith, again, sum_of-more m (λ i. count (suc b ∷ D) (suc i)) (λ i. count D (suc i)) b 1 (w (suc b) (has-head (suc b) D)).1 here other)
