-- Laws of what a round hands out: the streets that a site takes, and what their gift makes of the division.
-- Assumes nothing.
use mathlib.Core.Path.{◌≡◌, refl, sym, ◌∙◌}
use mathlib.Core.Bool.{true, not, true≢false, and-eq-true_iff}
use mathlib.Core.List.{List, [], ◌∷◌}
use Prim.Native.Nat.{ℕ, zero, suc, ◌+◌, ◌*◌, ◌≤◌, ◌<◌}
use native.Mathlib.Nat.{min-le_left}
use native.Mathlib.Omega.{arith}
use lib.Dec.{eqb}
use lib.ListN.{length, take, set, length-take, length-set}
use lib.Seq.{length-take-le, take-length, get_or-set_other}
use borrow.Author.Tests.{eqb-true, not-true}
use Rattle.counting.specs.Words.{one}
use Rattle.counting.specs.Lists.{at, has, distinct, count, sum}
use Rattle.counting.proofs.Membership.{has-head, has-tail}
use Rattle.division.specs.Shares.{division_total}
use Rattle.division.proofs.Counts.{count-total, count-suc}
use Rattle.division.proofs.Chain.{division_total-set}
use Rattle.balanced_plan.specs.Rounds.{ordered, free, lot, give}
use Rattle.counting.proofs.Listed.{has-take, take-distinct, sum-even}
use Rattle.balanced_plan.proofs.Ordered.{ordered-street, ordered-distinct, ordered-longer}

-- a site takes no more streets than the share
pub lot-at-most : (key : ℕ → ℕ → ℕ) (q : ℕ) (division : List ℕ) (a : ℕ) → length (lot key q division a) ≤ q
lot-at-most key q division a = rw length-take (min-le_left q (length (ordered (key a) (free division) (length division))))

-- the free streets before the street k, in any order, are those without a site
free-upto : (key : ℕ → ℕ) (division : List ℕ) (k : ℕ) → k ≤ length division → length (ordered key (free division) k) ≡ count (take k division) 0
unfolding ordered count
free-upto key division zero l = refl
free-upto key division (suc k) l =
    omega (arith, ordered-longer key (free division) k, count-suc division k 0 l, free-upto key division k (omega arith))

-- the order of the free streets is as long as there are streets without a site
pub free-length : (key : ℕ → ℕ) (division : List ℕ) → length (ordered key (free division) (length division)) ≡ count division 0
free-length key division = rw take-length at (free-upto key division (length division) (omega arith))

-- while there are as many, a site takes its share
pub lot-length : (key : ℕ → ℕ → ℕ) (q : ℕ) (division : List ℕ) (a : ℕ) → q ≤ count division 0 → length (lot key q division a) ≡ q
lot-length key q division a l = length-take-le q (ordered (key a) (free division) (length division)) (omega (arith, free-length (key a) division))

-- streets that can be given: different ones that have no site
pub record Givable (division streets : List ℕ) : Type 0 where
  pub apart : distinct streets ≡ true
  pub here : (s : ℕ) → has s streets ≡ true → (s < length division) × (at division s ≡ 0)

-- those that a site takes are such
pub lot-givable : (key : ℕ → ℕ → ℕ) (q : ℕ) (division : List ℕ) (a : ℕ) → Givable division (lot key q division a)
lot-givable key q division a =
    let line : List ℕ = ordered (key a) (free division) (length division) in
    record {
      apart = take-distinct q line (ordered-distinct (key a) (free division) (length division));
      here = λ s h. let (l, y) = ordered-street (key a) (free division) (length division) s (has-take q s line h) in (l, eqb-true (at division s) 0 y);
    }

-- once the first of them is given, the others still can be
givable-rest : (a s : ℕ) (streets division : List ℕ) → Givable division (s ∷ streets) → Givable (set division s a) streets
givable-rest a s streets division g =
    let (new, apart) = (and-eq-true_iff (not (has s streets)) (distinct streets)).0 g.apart in
    let other : (u : ℕ) → has u streets ≡ true → u ≡ s → ⊥ = λ u h e. true≢false (sym (rw e at h) ∙ not-true (has s streets) new) in
    record {
      apart = apart;
      here = λ u h. let (l, e) = g.here u (has-tail u s streets h) in (rw length-set l, get_or-set_other division s u a 0 (other u h) ∙ e);
    }

-- a gift leaves as many streets
pub give-length : (a : ℕ) (streets division : List ℕ) → length (give a streets division) ≡ length division
give-length a [] division = refl
give-length a (s ∷ streets) division = give-length a streets (set division s a) ∙ length-set division s a

-- it takes from the total what the streets gave with no site, and adds what they give theirs
pub give-total : (v : ℕ → ℕ → ℕ) (a : ℕ) (streets division : List ℕ) → Givable division streets
    → division_total v (give a streets division) + sum (λ s. v s 0) streets ≡ division_total v division + sum (λ s. v s a) streets
give-total v a [] division g = refl
give-total v a (s ∷ streets) division g =
    let (l, e) = g.here s (has-head s streets) in
    omega (arith, give-total v a streets (set division s a) (givable-rest a s streets division g), rw e at (division_total-set v division s a l))

-- each of the streets is counted no more as one without a site, and is counted for its site
pub give-count : (a x : ℕ) (streets division : List ℕ) → Givable division streets
    → count (give a streets division) x + length streets * one (eqb 0 x) ≡ count division x + length streets * one (eqb a x)
give-count a x streets division g =
    let moved = give-total (λ s b. one (eqb b x)) a streets division g in
    simp count-total (omega (arith, moved, sum-even (one (eqb 0 x)) streets, sum-even (one (eqb a x)) streets))
