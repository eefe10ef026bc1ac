-- Laws of a number in decimal: its digits one by one, and how many there are.
-- Assumes nothing.
use mathlib.Core.Path.{◌≡◌, sym, ap, ◌∙◌}
use mathlib.Core.List.{List, [], ◌∷◌, ◌++◌}
use mathlib.Core.Logic.{by_cases}
use Prim.Native.Nat.{ℕ, zero, suc, ◌+◌, ◌/◌, ◌%◌, ◌^◌, ◌≤◌, ◌<◌}
use native.Mathlib.Nat.{pow-succ'}
use native.Mathlib.Decide.{dec_lt}
use native.Mathlib.Omega.{arith}
use lib.ListN.{length, set, length-append}
use borrow.Author.Tests.{lt-ltb, le-ltb}
use Rattle.counting.specs.Buffers.{Written}
use Rattle.counting.proofs.Laying.{written_byte}
use Rattle.listing.specs.Listing.{digit, digits, decimal}
use Rattle.listing.proofs.Rooms.{front-room, byte-room, byte-written}

-- a number below 10 is one digit
digits-one : (d x : ℕ) → x < 10 → digits (suc d) x ≡ digit x ∷ []
unfolding digits
digits-one d x l = rw (lt-ltb x 10 l)

-- a greater number has the digits of its tenth before its last one
digits_more : (d x : ℕ) → 10 ≤ x → digits (suc d) x ≡ digits d (x / 10) ++ (digit (x % 10) ∷ [])
unfolding digits
digits_more d x l = rw (le-ltb x 10 l)

-- how many digits are allowed makes no difference where they suffice
digits-enough : (d e x : ℕ) → x < d → x < e → digits d x ≡ digits e x
digits-enough zero e x l k = absurd (omega arith)
digits-enough (suc d) zero x l k = absurd (omega arith)
digits-enough (suc d) (suc e) x l k =
    by_cases (dec_lt x 10) (λ s. digits-one d x s ∙ sym (digits-one e x s))
    (λ h.
    let g : 10 ≤ x = omega arith in
    digits_more d x g ∙ ap (λ (y : List ℕ). y ++ (digit (x % 10) ∷ [])) (digits-enough d e (x / 10) (omega arith) (omega arith)) ∙ sym (digits_more e x g))

pub decimal-one : (x : ℕ) → x < 10 → decimal x ≡ digit x ∷ []
decimal-one x = digits-one x x

pub decimal-more : (x : ℕ) → 10 ≤ x → decimal x ≡ decimal (x / 10) ++ (digit (x % 10) ∷ [])
decimal-more x l =
    digits_more x x l ∙ ap (λ (y : List ℕ). y ++ (digit (x % 10) ∷ [])) (digits-enough x (suc (x / 10)) (x / 10) (omega arith) (omega arith))

-- a number below 10 ^ d has at most d digits
pub decimal-length : (d x : ℕ) → x < 10 ^ suc d → length (decimal x) ≤ suc d
decimal-length zero x l = rw (decimal-one x (omega arith)) (omega arith)
decimal-length (suc d) x l =
    by_cases (dec_lt x 10) (λ s. rw (decimal-one x s) (omega arith))
    (λ h.
    let less = decimal-length d (x / 10) (omega (arith, pow-succ' 10 (suc d))) in
    rw (decimal-more x (omega arith)) (omega (arith, length-append (decimal (x / 10)) (digit (x % 10) ∷ []))))

-- ---- a number that is written: below 10 it is a byte, else a byte behind its tenth
pub one-room : (x i n : ℕ) → x < 10 → i + length (decimal x) ≤ n → i < n
one-room x i n l room = omega (arith, rw (decimal-one x l) at room)

pub one_written : (out : List ℕ) (i x : ℕ) → x < 10 → i + length (decimal x) ≤ length out → Written out i (decimal x) (set out i (digit x)) (i + 1)
one_written out i x l room = rw (decimal-one x l) (written_byte out i (digit x) (one-room x i (length out) l room))

pub tenth-room : (x i n : ℕ) → 10 ≤ x → i + length (decimal x) ≤ n → i + length (decimal (x / 10)) ≤ n
tenth-room x i n l room = front-room i n (decimal (x / 10)) (digit (x % 10) ∷ []) (rw (decimal-more x l) at room)

module _ {out : List ℕ} {i x : ℕ} {middle : List ℕ} {j : ℕ} (l : 10 ≤ x) (room : i + length (decimal x) ≤ length out)
    (tenth : Written out i (decimal (x / 10)) middle j) where
  pub last-room : j < length middle
  last-room = byte-room (digit (x % 10)) tenth (rw (decimal-more x l) at room)

  pub last_written : Written out i (decimal x) (set middle j (digit (x % 10))) (j + 1)
  last_written = rw (decimal-more x l) (byte-written (digit (x % 10)) tenth (rw (decimal-more x l) at room))
