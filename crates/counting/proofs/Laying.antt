-- Laws of bytes that are laid over a buffer: what is written behind something written is written together with it.
-- Assumes nothing.
use mathlib.Core.Path.{◌≡◌, refl, sym, ap, ◌∙◌}
use mathlib.Core.List.{List, [], ◌∷◌, ◌++◌, append-nil, append_assoc}
use mathlib.Core.Logic.{⊎_elim}
use Prim.Native.Nat.{ℕ, zero, suc, ◌+◌, ◌≤◌, ◌<◌}
use native.Mathlib.Nat.{le_antisymm, eq-or-lt_of_le, le_of_suc-le-suc}
use native.Mathlib.Numerals.{add-one}
use native.Mathlib.Omega.{arith}
use lib.ListN.{length, take, drop, set, length-append, length-drop, take-append-drop}
use lib.Seq.{length-take-le, set_split, append_snoc, take_at, drop-append-add, drop-drop, ext_get_or}
use Rattle.counting.specs.Lists.{at}
use Rattle.counting.specs.Buffers.{joined, list_of, laid, Written}
use Rattle.counting.proofs.Sums.{list_of-length, list_of-at}

-- ---- bytes laid over a buffer
module _ (buffer : List ℕ) (i : ℕ) where
  -- the buffer keeps its length
  laid-length : (bytes : List ℕ) → i + length bytes ≤ length buffer → length (laid buffer i bytes) ≡ length buffer
  unfolding laid
  laid-length bytes l =
      omega (
        arith,
        length-append (take i buffer ++ bytes) (drop (i + length bytes) buffer),
        length-append (take i buffer) bytes,
        length-take-le i buffer (omega arith),
        length-drop (i + length bytes) buffer,
      )

  -- no bytes change nothing
  laid_none : buffer ≡ laid buffer i []
  unfolding laid
  laid_none =
      let none : i + 0 ≡ i = omega arith in
      sym (rw (append-nil (take i buffer), none) (take-append-drop i buffer))

  -- a byte that is stored is laid
  laid-byte : (x : ℕ) → i < length buffer → set buffer i x ≡ laid buffer i (x ∷ [])
  unfolding laid
  laid-byte x l =
      let one : suc i ≡ i + 1 = omega arith in
      set_split buffer i x l ∙ sym (append_snoc (take i buffer) x (drop (suc i) buffer))
      ∙ ap (λ (j : ℕ). take i buffer ++ (x ∷ []) ++ drop j buffer) one

  -- bytes laid behind others are laid with them
  laid_next : (x y : List ℕ) → i + length x + length y ≤ length buffer → laid (laid buffer i x) (i + length x) y ≡ laid buffer i (x ++ y)
  unfolding laid
  laid_next x y l =
      let front : List ℕ = take i buffer ++ x in
      let rest : List ℕ = drop (i + length x) buffer in
      let size : length front ≡ i + length x = omega (arith, length-append (take i buffer) x, length-take-le i buffer (omega arith)) in
      let low : take (i + length x) (front ++ rest) ≡ front = take_at front rest (i + length x) size in
      let high : drop (i + length x + length y) (front ++ rest) ≡ drop (i + length x + length y) buffer =
      rw size at (drop-append-add front rest (length y)) ∙ drop-drop (length y) (i + length x) buffer in
      let both : i + length x + length y ≡ i + length (x ++ y) = omega (arith, length-append x y) in
      ap (λ (z : List ℕ). z ++ y ++ drop (i + length x + length y) (front ++ rest)) low ∙ ap (λ (z : List ℕ). front ++ y ++ z) high
      ∙ ap (λ (z : List ℕ). z ++ drop (i + length x + length y) buffer) (append_assoc (take i buffer) x y)
      ∙ ap (λ (z : ℕ). take i buffer ++ (x ++ y) ++ drop z buffer) both

-- ---- what is written
-- nothing is written yet
written_none : (file : List ℕ) (i : ℕ) → i ≤ length file → Written file i [] file i
written_none file i l = record { room = omega arith; right = laid_none file i; behind = omega arith }

-- a byte is stored
pub written_byte : (file : List ℕ) (i x : ℕ) → i < length file → Written file i (x ∷ []) (set file i x) (i + 1)
written_byte file i x l = record { room = omega arith; right = laid-byte file i x l; behind = refl }

module _ {before : List ℕ} {i : ℕ} {x middle : List ℕ} {j : ℕ} (first : Written before i x middle j) where
  -- the file keeps its length
  pub written-size : length middle ≡ length before
  written-size = ap length first.right ∙ laid-length before i x first.room

  -- what is written behind it is written with it
  pub written_next : {y after : List ℕ} {k : ℕ} → Written middle j y after k → Written before i (x ++ y) after k
  written_next {y = y} second =
      let room : i + length x + length y ≤ length before = omega (arith, first.behind, second.room, written-size) in
      record {
        room = omega (arith, length-append x y);
        right = second.right ∙ ap (λ (b : List ℕ). laid b j y) first.right ∙ ap (λ (z : ℕ). laid (laid before i x) z y) first.behind
            ∙ laid_next before i x y room;
        behind = omega (arith, length-append x y, first.behind, second.behind);
      }

-- two bytes are stored, and three
pub written-two : (file : List ℕ) (i x y : ℕ) → i + 2 ≤ length file → Written file i (x ∷ y ∷ []) (set (set file i x) (i + 1) y) (i + 2)
written-two file i x y l =
    let first = written_byte file i x (omega arith) in
    let next : i + 1 + 1 ≡ i + 2 = omega arith in
    rw next at (written_next first (written_byte (set file i x) (i + 1) y (omega (arith, written-size first))))

pub written-three : (file : List ℕ) (i x y z : ℕ) → i + 3 ≤ length file
    → Written file i (x ∷ y ∷ z ∷ []) (set (set (set file i x) (i + 1) y) (i + 2) z) (i + 3)
written-three file i x y z l =
    let first = written-two file i x y (omega arith) in
    let next : i + 2 + 1 ≡ i + 3 = omega arith in
    rw next at (written_next first (written_byte (set (set file i x) (i + 1) y) (i + 2) z (omega (arith, written-size first))))

-- ---- pieces written by a loop, one a turn
module _ (f : ℕ → List ℕ) where
  -- one piece more
  pub joined-next : (s : ℕ) → joined (s + 1) f ≡ joined s f ++ f s
  unfolding joined
  joined-next s = rw (add-one s) refl

  -- a piece ends within all of them
  joined-room : (n s : ℕ) → s < n → length (joined s f) + length (f s) ≤ length (joined n f)
  unfolding joined
  joined-room zero s l = absurd (omega arith)
  joined-room (suc n) s l =
      let size = length-append (joined n f) (f n) in
      ⊎_elim (λ e. rw e (omega (arith, size))) (λ k. omega (arith, size, joined-room n s k)) (eq-or-lt_of_le (le_of_suc-le-suc l))

-- it starts with none
pub turns-none : (file : List ℕ) (i : ℕ) (f : ℕ → List ℕ) → i ≤ length file → Written file i (joined 0 f) file i
unfolding joined
turns-none file i f l = written_none file i l

module _ {before : List ℕ} {i : ℕ} (f : ℕ → List ℕ) {s : ℕ} {now : List ℕ} {j : ℕ} (turns : Written before i (joined s f) now j) where
  -- the next piece fits
  pub turns-room : (n : ℕ) → s < n → i + length (joined n f) ≤ length before → j + length (f s) ≤ length now
  turns-room n l room = omega (arith, turns.behind, written-size turns, joined-room f n s l)

  -- it is written
  pub turns_more : {after : List ℕ} {k : ℕ} → Written now j (f s) after k → Written before i (joined (s + 1) f) after k
  turns_more piece = rw (joined-next f s) (written_next turns piece)

  -- all are written
  pub turns-all : (n : ℕ) → n ≤ s → s ≤ n → Written before i (joined n f) now j
  turns-all n a b = rw (le_antisymm b a) at turns

-- ---- a list, number by number
-- the numbers of a list, one behind the other, have its length
pub list-room : (list file : List ℕ) (i : ℕ) → i + length list ≤ length file → i + length (list_of (length list) (at list)) ≤ length file
list-room list file i l = omega (arith, list_of-length (length list) (at list))

-- they are the list
list-whole : (list : List ℕ) → list_of (length list) (at list) ≡ list
list-whole list =
    let size = list_of-length (length list) (at list) in
    ext_get_or 0 (list_of (length list) (at list)) list size (λ i l. list_of-at (length list) (at list) i (omega (arith, size)))

-- once all of them are written, the list is
pub list_written : (list : List ℕ) {before : List ℕ} {i j : ℕ} {now : List ℕ} {next : ℕ} → length list ≤ j → j ≤ length list
    → Written before i (list_of j (at list)) now next → Written before i list now next
list_written list a b w = rw (list-whole list) at (turns-all (λ k. at list k ∷ []) w (length list) a b)
