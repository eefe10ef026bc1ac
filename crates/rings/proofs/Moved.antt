-- Laws of a chain of moves: what it does to the streets, to the counts and to the total, and that a closed one keeps the shares.
-- Assumes nothing.
use mathlib.Core.Path.{◌≡◌, refl, sym, ap, ◌∙◌}
use mathlib.Core.Logic.{◌≢◌, by_cases}
use mathlib.Core.List.{List}
use Prim.Native.Nat.{ℕ, zero, suc, ◌+◌, ◌-◌, ◌≤◌, ◌<◌}
use native.Mathlib.Decide.{ℕ_discrete}
use native.Mathlib.Numerals.{add-one}
use native.Mathlib.Omega.{arith}
use lib.Dec.{eqb}
use lib.ListN.{length, set, length-set, get_or, drop, length-drop}
use Rattle.std.proofs.Common.{length-take}
use lib.Seq.{get_or-set_same, get_or-set_other}
use Rattle.counting.specs.Words.{one}
use Rattle.counting.specs.Lists.{at, count}
use Rattle.counting.proofs.Parts.{part, part_length, part_at}
use Rattle.division.specs.Shares.{InShares, division_total}
use Rattle.division.proofs.Counts.{count-total}
use Rattle.division.proofs.Chain.{division_total-set, over_done}
use Rattle.rings.specs.Rings.{moved, Trail}

-- a division has as many streets after the moves as before
pub moved_length : (D : List ℕ) (ts xs : ℕ → ℕ) (i q : ℕ) → length (moved D ts xs i q) ≡ length D
unfolding moved
moved_length D ts xs i zero = refl
moved_length D ts xs i (suc q) = length-set (moved D ts xs i q) (ts (i + q)) (xs (i + q + 1)) ∙ moved_length D ts xs i q

-- a street that is none of the chain's stays where it is
pub moved_other : (D : List ℕ) (ts xs : ℕ → ℕ) (i q s : ℕ) → ((l : ℕ) → i ≤ l → l < i + q → ts l ≢ s) → at (moved D ts xs i q) s ≡ at D s
unfolding moved
moved_other D ts xs i zero s h = refl
moved_other D ts xs i (suc q) s h =
    get_or-set_other (moved D ts xs i q) (ts (i + q)) s (xs (i + q + 1)) 0 (λ e. h (i + q) (omega arith) (omega arith) (sym e))
    ∙ moved_other D ts xs i q s (λ l a b. h l a (omega arith))

-- a loop over the chain starts with no move
pub moved_none : (D : List ℕ) (ts xs : ℕ → ℕ) (i : ℕ) → D ≡ moved D ts xs i 0
unfolding moved
moved_none D ts xs i = refl

-- one move more, as a loop over the chain makes it
pub moved_more : (D E : List ℕ) (ts xs : ℕ → ℕ) (i q : ℕ) → E ≡ moved D ts xs i q → set E (ts (i + q)) (xs (i + q + 1)) ≡ moved D ts xs i (q + 1)
unfolding moved
moved_more D E ts xs i q e = rw (add-one q, e) refl

-- the pair of a street and a site that the loop comes to next is the chain's next move
pub next-move : (streets sites : List ℕ) (from count q t x : ℕ) → from + count ≤ length streets
    → (q < length (part from (from + count) streets)) × (q < length (part (from + 1) (length sites) sites))
    × ((d : ℕ) → t ≡ get_or (part from (from + count) streets) q d) × ((d : ℕ) → x ≡ get_or (part (from + 1) (length sites) sites) q d)
    → (q < count) × (t ≡ at streets (from + q)) × (x ≡ at sites (from + q + 1))
next-move streets sites from count q t x fits (low, behind, street, site) =
    let less : q < count = omega (arith, low, part_length from (from + count) streets fits) in
    let long = length-take (length sites - (from + 1)) (drop (from + 1) sites) in
    let within : from + 1 + q < length sites = omega (arith, behind, long, length-drop (from + 1) sites) in
    let place : from + q + 1 ≡ from + 1 + q = omega arith in (
      less,
      street 0 ∙ part_at from (from + count) streets fits q (omega arith),
      rw place (site 0 ∙ part_at (from + 1) (length sites) sites (omega arith) q within),
    )

-- where no move of a closed chain begins, none ends
none-ends : (xs : ℕ → ℕ) (i q a : ℕ) → xs (i + q) ≡ xs i → ((l : ℕ) → i ≤ l → l < i + q → xs l ≢ a) → (l : ℕ) → i ≤ l → l < i + q → xs (l + 1) ≢ a
none-ends xs i q a c h l b n =
    by_cases (ℕ_discrete (l + 1) (i + q)) (λ p e. h i (omega arith) (omega arith) (sym c ∙ ap xs (sym p) ∙ e)) (λ p. h (l + 1) (omega arith) (omega arith))

module _ {D : List ℕ} {ts xs : ℕ → ℕ} {i : ℕ} where
  -- a chain without its last move
  shorter : {q : ℕ} → Trail D ts xs i (suc q) → Trail D ts xs i q
  shorter t =
      record {
        street = λ l a b. t.street l a (omega arith);
        site = λ l a b. t.site l a (omega arith);
        differ = λ k l a m b. t.differ k l a m (omega arith);
      }

  -- two streets of a chain differ, for their sites do
  apart : {q : ℕ} → Trail D ts xs i q → (k l : ℕ) → i ≤ k → k < l → l < i + q → ts k ≢ ts l
  apart t k l a m b e = t.differ k l a m b (sym (t.site k a (omega arith)) ∙ ap (at D) e ∙ t.site l (omega arith) b)

  -- the last street of a chain still stands at its site after the moves before
  last-stays : {q : ℕ} → Trail D ts xs i (suc q) → at (moved D ts xs i q) (ts (i + q)) ≡ xs (i + q)
  last-stays {q} t =
      moved_other D ts xs i q (ts (i + q)) (λ l a b. apart t l (i + q) a b (omega arith)) ∙ t.site (i + q) (omega arith) (omega arith)

  -- the last street of a chain is one of the division
  last-in : {q : ℕ} → Trail D ts xs i (suc q) → ts (i + q) < length (moved D ts xs i q)
  last-in {q} t = rw moved_length (t.street (i + q) (omega arith) (omega arith))

  -- where a potential g rises along the chain by what each move gains, the total rises by as much as g does from end to end
  pub moved-total : (v : ℕ → ℕ → ℕ) (g : ℕ → ℕ) (q : ℕ) → Trail D ts xs i q
      → ((l : ℕ) → i ≤ l → l < i + q → g (l + 1) + v (ts l) (xs l) ≡ g l + v (ts l) (xs (l + 1)))
      → division_total v (moved D ts xs i q) + g i ≡ division_total v D + g (i + q)
  unfolding moved
  moved-total v g zero t h = let e : i + 0 ≡ i = omega arith in rw e refl
  moved-total v g (suc q) t h =
      let M : List ℕ = moved D ts xs i q in
      let gain = rw (last-stays t) at (division_total-set v M (ts (i + q)) (xs (i + q + 1)) (last-in t)) in
      let e : i + suc q ≡ i + q + 1 = omega arith in
      let before = moved-total v g q (shorter t) (λ l a b. h l a (omega arith)) in
      rw e (omega (arith, gain, before, h (i + q) (omega arith) (omega arith)))

  -- the first site has one street less, and the site where the chain ends one more
  pub moved-count : {q : ℕ} → Trail D ts xs i q → (z : ℕ) → count (moved D ts xs i q) z + one (eqb (xs i) z) ≡ count D z + one (eqb (xs (i + q)) z)
  moved-count {q} t z = simp count-total (moved-total (λ s a. one (eqb a z)) (λ l. one (eqb (xs l) z)) q t (λ l a b. omega arith))

  -- a chain that ends where it began keeps the shares
  pub closed_in : {q : ℕ} → Trail D ts xs i q → xs (i + q) ≡ xs i → (c : List ℕ) → InShares D c → InShares (moved D ts xs i q) c
  closed_in {q} t e = over_done D (moved D ts xs i q) (xs i) (λ z. rw e at (moved-count t z))

  -- a street that stands after the moves at a site where no move ends stood there before
  came : (q a s : ℕ) → Trail D ts xs i q → ((l : ℕ) → i ≤ l → l < i + q → xs (l + 1) ≢ a) → at (moved D ts xs i q) s ≡ a → at D s ≡ a
  unfolding moved
  came zero a s t h e = e
  came (suc q) a s t h e =
      let M : List ℕ = moved D ts xs i q in
      let x : ℕ = xs (i + q + 1) in
      let new : s ≡ ts (i + q) → x ≡ a = λ p. sym (get_or-set_same M (ts (i + q)) x 0 (last-in t)) ∙ ap (at (set M (ts (i + q)) x)) (sym p) ∙ e in
      let old : s ≢ ts (i + q) → at M s ≡ a = λ n. sym (get_or-set_other M (ts (i + q)) s x 0 n) ∙ e in
      by_cases (ℕ_discrete s (ts (i + q))) (λ p. absurd (h (i + q) (omega arith) (omega arith) (new p)))
      (λ n. came q a s (shorter t) (λ l b m. h l b (omega arith)) (old n))

  -- a site that is not on a closed chain has the same streets before and after
  pub moved-alike : {q : ℕ} → Trail D ts xs i q → xs (i + q) ≡ xs i → (a : ℕ) → ((l : ℕ) → i ≤ l → l < i + q → xs l ≢ a)
      → (s : ℕ) → s < length D → (at (moved D ts xs i q) s ≡ a → at D s ≡ a) × (at D s ≡ a → at (moved D ts xs i q) s ≡ a)
  moved-alike {q} t c a h s m =
      let other : at D s ≡ a → (l : ℕ) → i ≤ l → l < i + q → ts l ≢ s = λ e l b n p. h l b n (sym (t.site l b n) ∙ ap (at D) p ∙ e) in
      (came q a s t (none-ends xs i q a c h), λ e. moved_other D ts xs i q s (other e) ∙ e)
