-- Laws of a first division: what a look over the sites finds, and what is left of the shares as the streets get their sites one by one.
-- Assumes nothing.
use mathlib.Core.Path.{◌≡◌, refl, sym, ap, ◌∙◌}
use mathlib.Core.Logic.{⊎_elim}
use mathlib.Core.List.{List, [], ◌∷◌}
use Prim.Native.Nat.{ℕ, zero, suc, ◌+◌, ◌-◌, ◌*◌, ◌≤◌, ◌<◌}
use native.Mathlib.Nat.{mul-le-mul, eq-zero-or-pos}
use native.Mathlib.Numerals.{add-one, sub-one}
use native.Mathlib.Omega.{arith}
use borrow.Author.Rules.{rules}
use Rattle.std.specs.Prelude.{Option, Some, None}
use Rattle.std.specs.Option.{IsSome}
use lib.Dec.{eqb}
use lib.ListN.{length, take, set, length-set}
use lib.Seq.{get_or-set_same, get_or-set_other, take-set-le, take_all}
use Rattle.counting.specs.Bounds.{most_streets, most_width, most_entries}
use Rattle.counting.specs.Words.{one}
use Rattle.counting.specs.Lists.{at, count}
use Rattle.counting.proofs.Sums.{at-within}
use Rattle.counting.proofs.Tables.{row_within}
use Rattle.division.specs.Shares.{share, less, InShares, share_sum}
use Rattle.division.specs.Problem.{Problem, tail}
use Rattle.division.proofs.Counts.{share-less, dot-less, share-none, share-some, count-suc}
use Rattle.division.proofs.ProblemShares.{share-tail}
use Rattle.starts.specs.Given.{Seen}

-- ---- a look over the sites
-- where some site has a share left, one is found
pub seen-some : (left : List ℕ) (best : Option ℕ) → Seen left (length left) best → (a : ℕ) × (0 < at left a) → IsSome best
seen-some left None h (a, l) = absurd (omega (arith, h a (at-within left a l)))
seen-some left (Some site) h p = search rules

-- and it has a share left
pub seen-left : (left : List ℕ) {best : Option ℕ} (site : ℕ) → Seen left (length left) best → best ≡ Some site → 0 < at left site
seen-left left site h e = (rw e at h).1

-- ---- the streets one by one
-- where a street's row of values ends
pub row_ends : {values shares : List ℕ} {n : ℕ} (s : ℕ) → Problem values shares n → s < n
    → (s * length shares + length shares ≤ length values) × (length values ≤ most_entries)
row_ends {values} {shares} {n} s t l = (
  omega (arith, row_within n (length shares) s l, t.size),
  omega (arith, t.size, mul-le-mul {n₁ = n} {m₁ = length shares} {n₂ = most_streets} {m₂ = most_width} t.few t.few-sites),
)

-- a street more at a site
count-more : (division : List ℕ) (s a x : ℕ) → s < length division → count (take (s + 1) (set division s a)) x ≡ count (take s division) x + one (eqb a x)
count-more division s a x l =
    let place : at (set division s a) s ≡ a = get_or-set_same division s a 0 l in
    rw (add-one, count-suc (set division s a) s x (simp length-set l), place, take-set-le s division s a (omega arith)) refl

-- one street less for a site, with site 0 in front
less-tail : (left : List ℕ) (a : ℕ) → 0 < a → tail (set left a (at left a - 1)) ≡ less (tail left) a
unfolding less
less-tail left zero l = absurd (omega arith)
less-tail [] (suc a) l = refl
less-tail (y ∷ c) (suc a) l = rw sub-one refl

module _ (left : List ℕ) (a : ℕ) (nobody : at left 0 ≡ 0) (h : 0 < at left a) where
  -- a site that has a share left is not site 0
  site : 0 < a
  site = ⊎_elim (λ e. absurd (omega (arith, rw e at h))) (λ l. l) (eq-zero-or-pos a)

  -- behind site 0 it has that share
  own : 0 < share (tail left) a
  own = omega (arith, share-tail left nobody a)

  -- the site has one street less left, and another site has as many as before
  left_less : (x : ℕ) → at (set left a (at left a - 1)) x + one (eqb a x) ≡ at left x
  left_less x =
      let now : List ℕ = set left a (at left a - 1) in
      let front : at now 0 ≡ 0 = get_or-set_other left a 0 (at left a - 1) 0 (λ e. omega (arith, site)) ∙ nobody in
      let less-at : share (tail now) x ≡ share (less (tail left) a) x = ap (λ (c : List ℕ). share c x) (less-tail left a site) in
      omega (arith, share-tail now front x, share-tail left nobody x, less-at, share-less (tail left) a x own)

  -- together one street less is left
  sum_less : share_sum (tail (set left a (at left a - 1))) + 1 ≡ share_sum (tail left)
  sum_less = omega (arith, ap share_sum (less-tail left a site), dot-less (λ b. 1) (tail left) a own)

-- the first s streets have their sites; each site has its streets and what is left of its share, and n - s streets are left
pub record Giving (shares left division : List ℕ) (n s : ℕ) : Type 0 where
  pub size : length left ≡ length shares
  pub room : length division ≡ n
  pub shared : (a : ℕ) → count (take s division) a + at left a ≡ at shares a
  pub due : share_sum (tail left) + s ≡ n

-- no street has a site yet
pub giving-none : {shares left : List ℕ} (division : List ℕ) → left ≡ shares → share_sum (tail shares) ≡ length division
    → Giving shares left division (length division) 0
unfolding count
giving-none division e h =
    record { size = ap length e; room = refl; shared = λ a. rw e (omega arith); due = rw e (omega arith) }

module _ {shares left division : List ℕ} {n s : ℕ} (nobody : at shares 0 ≡ 0) (g : Giving shares left division n s) where
  -- site 0 has no share left
  none_left : at left 0 ≡ 0
  none_left = omega (arith, g.shared 0)

  -- while a street is left, so is a share
  pub giving-some : s < n → (a : ℕ) × (0 < at left a)
  giving-some l =
      let (a, h) = share-some (tail left) (omega (arith, g.due)) in
      (suc a, omega (arith, share-tail left none_left (suc a)))

  -- a street more gets a site that has a share left
  pub giving-more : (a : ℕ) → s < n → 0 < at left a → Giving shares (set left a (at left a - 1)) (set division s a) n (s + 1)
  giving-more a l h =
      record {
        size = simp length-set g.size;
        room = simp length-set g.room;
        shared = λ x. omega (arith, count-more division s a x (omega (arith, g.room)), left_less left a none_left h x, g.shared x);
        due = omega (arith, g.due, sum_less left a none_left h);
      }

  -- every street has its site, so each site has its share
  pub giving-end : n ≤ s → InShares division (tail shares)
  giving-end l a =
      let none : at left a ≡ 0 = sym (share-tail left none_left a) ∙ share-none (tail left) (omega (arith, g.due)) a in
      let all : take s division ≡ division = take_all s division (omega (arith, g.room)) in
      let counted : count (take s division) a ≡ count division a = ap (λ (D : List ℕ). count D a) all in
      omega (arith, counted, g.shared a, share-tail shares nobody a)
