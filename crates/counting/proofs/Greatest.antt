-- Laws of the choice that every plan makes: what is chosen, that only one number can be, and the scan that finds it site by site.
-- Assumes nothing.
use mathlib.Core.Path.{◌≡◌, refl, sym, ap, ◌∙◌}
use mathlib.Core.Bool.{Bool, true, false, not, and-eq-true_iff}
use mathlib.Mathlib.Data.Bool.Basic.{dichotomy}
use mathlib.Core.Logic.{⊎_elim}
use mathlib.Core.List.{List}
use Prim.Native.Nat.{ℕ, zero, suc, ◌+◌, ◌≤◌, ◌<◌}
use native.Mathlib.Nat.{le-suc_iff}
use native.Mathlib.Numerals.{add-one}
use native.Mathlib.Omega.{arith}
use lib.Dec.{ltb}
use lib.ListN.{length}
use borrow.Author.Tests.{ltb-true, ltb-false, lt-ltb, not-true}
use Rattle.counting.specs.Words.{◌when◌}
use Rattle.counting.specs.Lists.{has}
use Rattle.counting.specs.Greatest.{seek, worth_or_none, greatest, unchosen}
use Rattle.counting.proofs.Refusals.{when-yes, when-none, and_both, and-not-right}
use Rattle.counting.proofs.Membership.{cond-at, some_left}

-- b is the lowest of 0, 1, .., i at which f is greatest, and x is f there: what a scan that has come to i holds
pub record Best (f : ℕ → ℕ) (i b x : ℕ) : Type 0 where
  pub upto : b ≤ i
  pub there : x ≡ f b
  pub most : (a : ℕ) → a ≤ i → f a ≤ x
  pub first : (a : ℕ) → a < b → f a < x

module _ {f : ℕ → ℕ} where
  -- one number more: nothing up to it is above z
  next : {i z : ℕ} → ((a : ℕ) → a ≤ i → f a ≤ z) → f (suc i) ≤ z → (a : ℕ) → a ≤ suc i → f a ≤ z
  next h k a l = ⊎_elim (h a) (λ e. rw e k) (le-suc_iff.0 l)

  -- the next number is better than all before, or is not; below the same for code's i + 1
  up : {i b x y : ℕ} → Best f i b x → y ≡ f (suc i) → x < y → Best f (suc i) (suc i) y
  up {i} {y = y} s e l =
      let below : (a : ℕ) → a ≤ i → f a < y = λ a h. omega (arith, s.most a h) in
      record { upto = omega arith; there = e; most = next (λ a h. omega (arith, below a h)) (omega arith); first = λ a h. below a (omega arith) }

  keep : {i b x y : ℕ} → Best f i b x → y ≡ f (suc i) → y ≤ x → Best f (suc i) b x
  keep s e l = record { upto = omega (arith, s.upto); there = s.there; most = next s.most (omega arith); first = s.first }

  -- the scan starts at 0
  pub best-start : {x : ℕ} → x ≡ f 0 → Best f 0 0 x
  best-start e =
      let zero-at : (a : ℕ) → a ≤ 0 → a ≡ 0 = λ a l. omega arith in
      record { upto = omega arith; there = e; most = λ a l. rw (zero-at a l) (omega arith); first = λ a l. absurd (omega arith) }

  -- the next number is better than all before
  pub best-up : {i b x y : ℕ} → Best f i b x → y ≡ f (i + 1) → x < y → Best f (i + 1) (i + 1) y
  best-up s e l = rw add-one (up s (rw add-one at e) l)

  -- the next number is not better
  pub best-keep : {i b x y : ℕ} → Best f i b x → y ≡ f (i + 1) → y ≤ x → Best f (i + 1) b x
  best-keep s e l = rw add-one (keep s (rw add-one at e) l)

  -- two scans of the same numbers have found the same one
  not-before : {i b x c y : ℕ} → Best f i b x → Best f i c y → ¬ (c < b)
  not-before {b = b} {c = c} s t l = omega (arith, s.first c l, t.most b s.upto)

  best-only : {i b x c y : ℕ} → Best f i b x → Best f i c y → b ≡ c
  best-only s t = omega (arith, not-before s t, not-before t s)

-- `seek` finds it
seek-best : (f : ℕ → ℕ) (m : ℕ) → Best f m (seek f m).0 (seek f m).1
unfolding seek
seek-best f zero = best-start refl
seek-best f (suc m) =
    let (b, x) = seek f m in
    let so : Best f m b x = seek-best f m in
    cond-at (λ (r : ℕ × ℕ). Best f (suc m) r.0 r.1) (ltb x (f (suc m))) (λ e. up so refl (ltb-true _ _ e)) (λ e. keep so refl (ltb-false _ _ e))

-- g is of the numbers up to m that pass the test the one of greatest worth, the lowest of equals
pub record Chosen (test : ℕ → Bool) (worth : ℕ → ℕ) (m g : ℕ) : Type 0 where
  pub upto : g ≤ m
  pub passes : test g ≡ true
  pub most : (a : ℕ) → a ≤ m → test a ≡ true → worth a ≤ worth g
  pub first : (a : ℕ) → a < g → test a ≡ true → worth a < worth g

module _ (test : ℕ → Bool) (worth : ℕ → ℕ) where
  -- what a number that passes the test is compared by, and one that does not
  pub worth-or-none-yes : (a : ℕ) → test a ≡ true → worth_or_none test worth a ≡ suc (worth a)
  worth-or-none-yes a e = sym (when-yes (suc (worth a)) (test a) e)

  pub worth-or-none-none : (a : ℕ) → test a ≡ false → worth_or_none test worth a ≡ 0
  worth-or-none-none a e = sym (when-none (suc (worth a)) (test a) e)

  -- what is compared is at most x where a worth that counts is below x
  worth-or-none-le : (a x : ℕ) → (test a ≡ true → worth a < x) → worth_or_none test worth a ≤ x
  worth-or-none-le a x h = ⊎_elim (λ n. omega (arith, worth-or-none-none a n)) (λ y. omega (arith, h y, worth-or-none-yes a y)) (dichotomy (test a))

  -- the greatest is what a scan of the flags up to m finds
  found : (m : ℕ) → (x : ℕ) × Best (worth_or_none test worth) m (greatest test worth m) x
  unfolding greatest
  found m = ((seek (worth_or_none test worth) m).1, seek-best (worth_or_none test worth) m)

  -- so a scan that has come to m holds it
  pub best-done : {m b x : ℕ} → Best (worth_or_none test worth) m b x → b ≡ greatest test worth m
  best-done {m} s = best-only s (found m).1

  -- it is no more than m
  pub greatest-le : (m : ℕ) → greatest test worth m ≤ m
  greatest-le m = (found m).1.upto

  pub chosen-le : (m r : ℕ) → r ≡ greatest test worth m → r ≤ m
  chosen-le m r e = rw e (greatest-le m)

  -- where some number up to m passes the test, it is the chosen one
  pub greatest-of : (m a : ℕ) → a ≤ m → test a ≡ true → Chosen test worth m (greatest test worth m)
  greatest-of m a l e =
      let g = greatest test worth m in
      let (x, s) = found m in
      let above : 0 < x = omega (arith, s.most a l, worth-or-none-yes a e) in
      let passes : test g ≡ true = ⊎_elim (λ n. absurd (omega (arith, s.there, worth-or-none-none g n))) (λ y. y) (dichotomy (test g)) in
      let marked : x ≡ suc (worth g) = s.there ∙ worth-or-none-yes g passes in
      record {
        upto = s.upto;
        passes = passes;
        most = λ b h y. omega (arith, s.most b h, worth-or-none-yes b y, marked);
        first = λ b h y. omega (arith, s.first b h, worth-or-none-yes b y, marked);
      }

  -- a number that is chosen is the greatest
  pub greatest-only : {m g : ℕ} → Chosen test worth m g → g ≡ greatest test worth m
  greatest-only {g = g} c =
      best-done (record {
        upto = c.upto;
        there = sym (worth-or-none-yes g c.passes);
        most = λ a l. worth-or-none-le a (suc (worth g)) (λ y. omega (arith, c.most a l y));
        first = λ a l. omega (arith, worth-or-none-le a (worth g) (c.first a l));
      })

  -- where no number up to m passes, it is 0
  pub greatest-none : (m : ℕ) → ((a : ℕ) → a ≤ m → test a ≡ false) → greatest test worth m ≡ 0
  greatest-none m h =
      let (x, s) = found m in
      let low : ¬ (0 < greatest test worth m) = λ l. omega (arith, s.first 0 l, s.there, worth-or-none-none (greatest test worth m) (h _ s.upto)) in
      omega (arith, low)

-- a number where a test holds, and an equal number where an equal test does
when-same : (x y : ℕ) (s t : Bool) → s ≡ t → (s ≡ true → x ≡ y) → x when s ≡ y when t
unfolding ◌when◌
when-same x y true t e h = rw (← e) (h refl)
when-same x y false t e h = rw (← e)

-- `seek` goes by the numbers up to m alone
seek-same : (f g : ℕ → ℕ) (m : ℕ) → ((a : ℕ) → a ≤ m → f a ≡ g a) → seek f m ≡ seek g m
unfolding seek
seek-same f g zero h = rw (h 0 (omega arith))
seek-same f g (suc m) h = rw (seek-same f g m (λ a l. h a (omega arith)), h (suc m) (omega arith))

-- tests that agree up to m, and worths that agree where they hold, choose alike
pub greatest-same : (test try : ℕ → Bool) (worth price : ℕ → ℕ) (m : ℕ) → ((a : ℕ) → a ≤ m → test a ≡ try a) →
    ((a : ℕ) → a ≤ m → test a ≡ true → worth a ≡ price a) → greatest test worth m ≡ greatest try price m
unfolding greatest
greatest-same test try worth price m same even =
    ap (λ (r : ℕ × ℕ). r.0)
    (seek-same (worth_or_none test worth) (worth_or_none try price) m (λ a l. when-same _ _ (test a) (try a) (same a l) (λ y. ap suc (even a l y))))

module _ (chosen : List ℕ) where
  -- what passes is a site that is not chosen yet, a chosen one fails, and every site that is not chosen passes
  pub unchosen-only : (a : ℕ) → unchosen chosen a ≡ true → (0 < a) × (has a chosen ≡ false)
  unchosen-only a e =
      let (l, o) = (and-eq-true_iff (ltb 0 a) (not (has a chosen))).0 e in
      (ltb-true 0 a l, not-true (has a chosen) o)

  pub unchosen-no : (a : ℕ) → has a chosen ≡ true → unchosen chosen a ≡ false
  unchosen-no a e = and-not-right (ltb 0 a) (not (has a chosen)) (ap not e)

  pub unchosen-yes : (a : ℕ) → 0 < a → has a chosen ≡ false → unchosen chosen a ≡ true
  unchosen-yes a l e = and_both (ltb 0 a) (not (has a chosen)) (lt-ltb 0 a l) (ap not e)

  module _ (worth : ℕ → ℕ) where
    -- a scan of the sites starts from none
    pub unchosen-start : Best (worth_or_none (unchosen chosen) worth) 0 0 0
    unchosen-start = best-start (sym (worth-or-none-none (unchosen chosen) worth 0 refl))

    -- while fewer than m sites are chosen, there is one to choose
    pub unchosen-greatest : (m : ℕ) → length chosen < m → Chosen (unchosen chosen) worth m (greatest (unchosen chosen) worth m)
    unchosen-greatest m h = let (a, l, u, e) = some_left m chosen h in greatest-of (unchosen chosen) worth m a u (unchosen-yes a l e)
