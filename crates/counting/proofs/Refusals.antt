-- Laws of the words for refusals, in the shapes that a function's proof has at hand: what a callee ensures of its result, and what a test
-- showed. The rulesets are for `search`: `chain` for a row of tests with a return each, `loop` for a loop that returns the first refusal.
-- Assumes nothing.
use mathlib.Core.Path.{◌≡◌, refl, sym, ap, ◌∙◌}
use mathlib.Core.Bool.{Bool, true, false, ◌&&◌, ◌||◌, true≢false}
use Prim.Native.Nat.{ℕ, zero, suc, ◌+◌, ◌-◌, ◌≤◌, ◌<◌}
use native.Mathlib.Nat.{zero-add, eq-zero-or-pos, le_antisymm, suc-ne-zero, not-suc-le-zero, le_of_suc-le-suc, eq-or-lt_of_le}
use native.Mathlib.Numerals.{add-one}
use native.Mathlib.Omega.{arith}
use mathlib.Core.Logic.{⊎_elim}
use lib.Dec.{ltb, eqb, lit<}
use borrow.Author.Tests.{lt-ltb, le-ltb, eq-eqb, ne_eqb, ltb-false, eqb-true}
use Rattle.counting.specs.Words.{◌when◌, ◌unless◌, ◌or_else◌, first_nonzero, outside}

-- a number where its test holds, and 0 where it fails
pub when-yes : (x : ℕ) (t : Bool) → t ≡ true → x ≡ x when t
unfolding ◌when◌
when-yes x true e = refl
when-yes x false e = absurd (true≢false (sym e))

pub when-none : (x : ℕ) (t : Bool) → t ≡ false → 0 ≡ x when t
unfolding ◌when◌
when-none x true e = absurd (true≢false e)
when-none x false e = refl

-- the same the other way round
pub unless-yes : (x : ℕ) (t : Bool) → t ≡ false → x ≡ x unless t
unfolding ◌unless◌
unless-yes x true e = absurd (true≢false e)
unless-yes x false e = refl

pub unless-is : (r x : ℕ) (t : Bool) → t ≡ false → r ≡ x → r ≡ x unless t
unless-is r x t e i = i ∙ unless-yes x t e

pub unless-none : (x : ℕ) (t : Bool) → t ≡ true → 0 ≡ x unless t
unfolding ◌unless◌
unless-none x true e = refl
unless-none x false e = absurd (true≢false (sym e))

-- the first of two: a result that is the first and not 0, and one that is the second where the first is 0
pub or-stop : (r a b : ℕ) → r ≡ a → (r ≡ 0 → ⊥) → r ≡ a or_else b
unfolding ◌or_else◌
or-stop r zero b e h = absurd (h e)
or-stop r (suc a) b e h = e

pub or-pass : (r x a b : ℕ) → x ≡ a → x ≡ 0 → r ≡ b → r ≡ a or_else b
unfolding ◌or_else◌
or-pass r x zero b e h i = i
or-pass r x (suc a) b e h i = absurd (suc-ne-zero a (sym e ∙ h))

positive : (x : ℕ) → 0 < x → x ≡ 0 → ⊥
positive x h e = omega arith

-- a test that refuses, and one that is passed on
pub refuse : (x : ℕ) (t : Bool) (b : ℕ) → 0 < x → t ≡ true → x ≡ x when t or_else b
refuse x t b h e = or-stop x (x when t) b (when-yes x t e) (positive x h)

pub skip : (r x : ℕ) (t : Bool) (b : ℕ) → t ≡ false → r ≡ b → r ≡ x when t or_else b
skip r x t b e i = or-pass r 0 (x when t) b (when-none x t e) refl i

pub refuse-unless : (x : ℕ) (t : Bool) (b : ℕ) → 0 < x → t ≡ false → x ≡ x unless t or_else b
refuse-unless x t b h e = or-stop x (x unless t) b (unless-yes x t e) (positive x h)

pub skip-unless : (r x : ℕ) (t : Bool) (b : ℕ) → t ≡ true → r ≡ b → r ≡ x unless t or_else b
skip-unless r x t b e i = or-pass r 0 (x unless t) b (unless-none x t e) refl i

-- a number given as it is: refused by it where it is not 0
pub own-stop : (r b : ℕ) → (r ≡ 0 → ⊥) → r ≡ r or_else b
own-stop r b h = or-stop r r b refl h

pub own-pass : (r x b : ℕ) → x ≡ 0 → r ≡ b → r ≡ x or_else b
own-pass r x b h i = or-pass r x x b refl h i

-- a group of tests that refuses or passes as a whole
pub group : (a b c : ℕ) → (a or_else b) or_else c ≡ a or_else (b or_else c)
unfolding ◌or_else◌
group zero b c = refl
group (suc a) b c = refl

-- tests of two Bools
pub or_left : (a b : Bool) → a ≡ true → a || b ≡ true
or_left true b e = refl
or_left false b e = absurd (true≢false (sym e))

pub or_right : (a b : Bool) → b ≡ true → a || b ≡ true
or_right true b e = refl
or_right false b e = e

pub or-neither : (a b : Bool) → a ≡ false → b ≡ false → a || b ≡ false
or-neither true b e i = e
or-neither false b e i = i

pub and_both : (a b : Bool) → a ≡ true → b ≡ true → a && b ≡ true
and_both true b e i = i
and_both false b e i = e

pub and-not-left : (a b : Bool) → a ≡ false → a && b ≡ false
and-not-left true b e = absurd (true≢false e)
and-not-left false b e = refl

pub and-not-right : (a b : Bool) → b ≡ false → a && b ≡ false
and-not-right true b e = e
and-not-right false b e = refl

-- whether a number is above 0
pub zero-ltb : (i : ℕ) → i ≡ 0 → ltb 0 i ≡ false
zero-ltb i e = le-ltb 0 i (omega arith)

pub positive-ltb : (i : ℕ) → (i ≡ 0 → ⊥) → ltb 0 i ≡ true
positive-ltb i h = lt-ltb 0 i (omega arith)

-- a loop that has passed the first i: it starts with none, stops at the first refusal, goes on past each that is 0, and ends with none
pub first-start : (f : ℕ → ℕ) → first_nonzero 0 f ≡ 0
unfolding first_nonzero
first-start f = refl

first-zero : (n : ℕ) (f : ℕ → ℕ) → first_nonzero n f ≡ 0 → f n ≡ 0 → first_nonzero (suc n) f ≡ 0
unfolding first_nonzero
first-zero n f h e = sym (or-pass 0 (first_nonzero n f) (first_nonzero n f) (f n) refl h (sym e))

pub first_next : (i : ℕ) (f : ℕ → ℕ) (r : ℕ) → first_nonzero i f ≡ 0 → r ≡ f i → r ≡ 0 → first_nonzero (i + 1) f ≡ 0
first_next i f r h e z = rw add-one (first-zero i f h (sym e ∙ z))

stays : (k r : ℕ) (f : ℕ → ℕ) (i : ℕ) → r ≡ first_nonzero i f → (r ≡ 0 → ⊥) → r ≡ first_nonzero (k + i) f
unfolding first_nonzero
stays zero r f i e h = rw zero-add e
stays (suc k) r f i e h =
    let e' : suc k + i ≡ suc (k + i) = omega arith in
    or-stop r (first_nonzero (k + i) f) (f (k + i)) (stays k r f i e h) h ∙ ap (λ (m : ℕ). first_nonzero m f) (sym e')

first-at : (i : ℕ) (f : ℕ → ℕ) (r : ℕ) → first_nonzero i f ≡ 0 → r ≡ f i → r ≡ first_nonzero (suc i) f
unfolding first_nonzero
first-at i f r h e = or-pass r (first_nonzero i f) (first_nonzero i f) (f i) refl h e

pub first_found : (i n : ℕ) (f : ℕ → ℕ) (r : ℕ) → i < n → first_nonzero i f ≡ 0 → r ≡ f i → (r ≡ 0 → ⊥) → r ≡ first_nonzero n f
first_found i n f r l h e z =
    let s : n - suc i + suc i ≡ n = omega arith in
    rw s at (stays (n - suc i) r f (suc i) (first-at i f r h e) z)

pub first_done : (i n : ℕ) (f : ℕ → ℕ) → n ≤ i → i ≤ n → first_nonzero i f ≡ 0 → 0 ≡ first_nonzero n f
first_done i n f a b h = sym (rw (le_antisymm b a) at h)

-- the same where the loop counts to an end that is n
pub first-found-end : (i e n : ℕ) (f : ℕ → ℕ) (r : ℕ) → i < e → e ≡ n → first_nonzero i f ≡ 0 → r ≡ f i → (r ≡ 0 → ⊥) → r ≡ first_nonzero n f
first-found-end i e n f r l q h g z = first_found i n f r (rw q at l) h g z

pub first-done-end : (i e n : ℕ) (f : ℕ → ℕ) → e ≤ i → i ≤ e → e ≡ n → first_nonzero i f ≡ 0 → 0 ≡ first_nonzero n f
first-done-end i e n f a b q h = first_done i n f (rw q at a) (rw q at b) h

-- a loop whose test stands in its body: nothing is refused at i, and the turn goes on
pub first-quiet : (i : ℕ) (f : ℕ → ℕ) → first_nonzero i f ≡ 0 → 0 ≡ f i → first_nonzero (i + 1) f ≡ 0
first-quiet i f h e = first_next i f 0 h e refl

pub next-positive : (i : ℕ) → i + 1 ≡ 0 → ⊥
next-positive i e = omega arith

pub ruleset chain = (refl, lit<, tt, refuse, skip, refuse-unless, skip-unless, own-stop, own-pass, or-stop, or-pass, when-yes, when-none, unless-is, unless-none, zero-ltb, positive-ltb, or_left, or_right, or-neither, and_both, and-not-left, and-not-right, lt-ltb, le-ltb, eq-eqb, ne_eqb)

pub ruleset loop = (refl, tt, first-start, first_found, first-found-end, first_next, first_done, first-done-end, arith)

pub ruleset scan = (refl, tt, first-start, first_found, first-found-end, first-quiet, first_done, first-done-end, next-positive, when-yes, when-none, eq-eqb, ne_eqb, arith)

-- ---- back from 0: what an accepted input shows
pub or-zero : (a b : ℕ) → a or_else b ≡ 0 → (a ≡ 0) × (b ≡ 0)
unfolding ◌or_else◌
or-zero zero b e = (refl, e)
or-zero (suc a) b e = absurd (suc-ne-zero a e)

pub when-zero : (x : ℕ) (t : Bool) → 0 < x → x when t ≡ 0 → t ≡ false
unfolding ◌when◌
when-zero x true h e = absurd (positive x h e)
when-zero x false h e = refl

pub unless-zero : (x : ℕ) (t : Bool) → 0 < x → x unless t ≡ 0 → t ≡ true
unfolding ◌unless◌
unless-zero x true h e = refl
unless-zero x false h e = absurd (positive x h e)

pub or-false : (a b : Bool) → a || b ≡ false → (a ≡ false) × (b ≡ false)
or-false true b e = absurd (true≢false e)
or-false false b e = (refl, e)

-- a number that is not refused for its range is in it
pub within : (x y low high : ℕ) → 0 < x → x when outside y low high ≡ 0 → (low ≤ y) × (y ≤ high)
within x y low high h e =
    let o = or-false (ltb y low) (ltb high y) (when-zero x (outside y low high) h e) in
    (ltb-false y low o.0, ltb-false high y o.1)

-- a length that is not refused is the one that is due
pub exact : (x y due : ℕ) → 0 < x → x unless eqb y due ≡ 0 → y ≡ due
exact x y due h e = eqb-true y due (unless-zero x (eqb y due) h e)

-- none of the first n is refused
pub first-none : (n : ℕ) (f : ℕ → ℕ) → first_nonzero n f ≡ 0 → (i : ℕ) → i < n → f i ≡ 0
unfolding first_nonzero
first-none zero f e i l = absurd (not-suc-le-zero l)
first-none (suc n) f e i l =
    let z = or-zero (first_nonzero n f) (f n) e in
    ⊎_elim (λ q. ap f q ∙ z.1) (λ lt. first-none n f z.0 i lt) (eq-or-lt_of_le (le_of_suc-le-suc l))

-- what the first n are decides which is found
pub first-same : (n : ℕ) (f g : ℕ → ℕ) → ((i : ℕ) → i < n → f i ≡ g i) → first_nonzero n f ≡ first_nonzero n g
unfolding first_nonzero
first-same zero f g h = refl
first-same (suc n) f g h = rw (first-same n f g (λ i l. h i (omega arith)), h n (omega arith))

-- the first of numbers that are all 0 is 0
pub first-zeros : (n : ℕ) (f : ℕ → ℕ) → ((i : ℕ) → i < n → f i ≡ 0) → first_nonzero n f ≡ 0
unfolding first_nonzero
first-zeros zero f h = refl
first-zeros (suc n) f h = sym (or-pass 0 (first_nonzero n f) (first_nonzero n f) (f n) refl (first-zeros n f (λ i l. h i (omega arith))) (sym (h n (omega arith))))

-- the first number that is not 0 stands at an index, and before it stand zeros alone
pub first-find : (n : ℕ) (f : ℕ → ℕ) → 0 < first_nonzero n f → (i : ℕ) × (i < n) × (f i ≡ first_nonzero n f) × ((j : ℕ) → j < i → f j ≡ 0)
unfolding first_nonzero
first-find zero f h = absurd (omega arith)
first-find (suc n) f h =
    ⊎_elim (λ z. (n, omega arith, own-pass (f n) (first_nonzero n f) (f n) z refl, first-none n f z))
    (λ p. let (i, l, e, q) = first-find n f p in (i, omega arith, e ∙ own-stop (first_nonzero n f) (f n) (λ z. omega arith), q))
    (eq-zero-or-pos (first_nonzero n f))

-- a number that is above 0 where its test holds is itself, and the test holds
pub when-some : (x : ℕ) (t : Bool) → 0 < (x when t) → (t ≡ true) × (x when t ≡ x)
unfolding ◌when◌
when-some x true h = (refl, refl)
when-some x false h = absurd (omega arith)

-- nothing behind a number
pub or-none : (x : ℕ) → x or_else 0 ≡ x
unfolding ◌or_else◌
or-none zero = refl
or-none (suc x) = refl
