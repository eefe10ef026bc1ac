-- Laws of 16-bit numbers as two bytes, low byte first: a number comes back from its bytes, two bytes come back from their number, and m numbers
-- one behind the other are read each at its index.
-- Assumes nothing.
use mathlib.Core.Path.{◌≡◌, refl, sym, ap, ◌∙◌}
use mathlib.Core.List.{List, [], ◌∷◌, ◌++◌}
use Prim.Native.Nat.{ℕ, suc, ◌+◌, ◌*◌, ◌/◌, ◌%◌, ◌≤◌, ◌<◌}
use native.Mathlib.Omega.{arith}
use lib.ListN.{length, drop}
use lib.Seq.{drop-cons, get_or_at, get_or-append-add}
use Rattle.counting.specs.Lists.{at}
use Rattle.counting.specs.Buffers.{joined}
use Rattle.survey_file.specs.Encode.{word}
use Rattle.survey_file.specs.Decode.{word_at}
use Rattle.survey_file.proofs.Joined.{joined-even, joined-split}

-- each entry is a byte
abbrev pub Bytes : List ℕ → Type 0
Bytes list = (i : ℕ) → at list i < 256

-- a number from its two bytes
pub word_back : (x : ℕ) → x % 256 + 256 * (x / 256) ≡ x
word_back x = omega arith

-- two bytes from their number
bytes_back : (a b : ℕ) → a < 256 → b < 256 → word (a + 256 * b) ≡ a ∷ b ∷ []
bytes_back a b s t =
    let low : (a + 256 * b) % 256 ≡ a = omega arith in
    let high : (a + 256 * b) / 256 ≡ b = omega arith in
    rw (low, high) refl

-- a list from an index on is the number there and the rest
pub word-front : (list : List ℕ) (i : ℕ) → Bytes list → i + 2 ≤ length list → drop i list ≡ word (word_at list i) ++ drop (i + 2) list
word-front list i bytes room =
    let one : suc i ≡ i + 1 = omega arith in
    let two : suc (i + 1) ≡ i + 2 = omega arith in
    let tail : drop (suc i) list ≡ at list (i + 1) ∷ drop (i + 2) list =
    ap (λ (x : ℕ). drop x list) one ∙ drop-cons list (i + 1) 0 (omega arith) ∙ ap (λ (x : ℕ). at list (i + 1) ∷ drop x list) two in
    drop-cons list i 0 (omega arith) ∙ ap (λ (x : List ℕ). at list i ∷ x) tail
    ∙ ap (λ (x : List ℕ). x ++ drop (i + 2) list) (sym (bytes_back (at list i) (at list (i + 1)) (bytes i) (bytes (i + 1))))

-- m numbers one behind the other, each read at its index
pub words-at : (m : ℕ) (f : ℕ → ℕ) (y : List ℕ) (i : ℕ) → i < m → word_at (joined m (λ j. word (f j)) ++ y) (2 * i) ≡ f i
words-at m f y i l =
    let (z, q) = joined-split m (λ j. word (f j)) y i l in
    let front : List ℕ = joined i (λ j. word (f j)) in
    let size : length front ≡ 2 * i = omega (arith, joined-even i 2 (λ j. word (f j)) (λ j k. refl)) in
    let low : at (front ++ (word (f i) ++ z)) (2 * i) ≡ f i % 256 = get_or_at front (f i % 256) (f i / 256 ∷ z) 0 (2 * i) size in
    let high : at (front ++ (word (f i) ++ z)) (2 * i + 1) ≡ f i / 256 =
    ap (λ (x : ℕ). at (front ++ (word (f i) ++ z)) (x + 1)) (sym size) ∙ get_or-append-add front (word (f i) ++ z) 1 0 in
    ap (λ (x : List ℕ). word_at x (2 * i)) q ∙ ap (λ (x : ℕ). x + 256 * at (front ++ (word (f i) ++ z)) (2 * i + 1)) low
    ∙ ap (λ (x : ℕ). f i % 256 + 256 * x) high ∙ word_back (f i)

-- a number behind two bytes more
pub word-behind : (a b : ℕ) (list : List ℕ) (i : ℕ) → word_at (a ∷ b ∷ list) (2 + i) ≡ word_at list i
word-behind a b list i =
    let next : 2 + i + 1 ≡ 2 + (i + 1) = omega arith in
    let front : List ℕ = a ∷ b ∷ [] in
    let low : at (a ∷ b ∷ list) (2 + i) ≡ at list i = get_or-append-add front list i 0 in
    let high : at (a ∷ b ∷ list) (2 + i + 1) ≡ at list (i + 1) = ap (λ (x : ℕ). at (a ∷ b ∷ list) x) next ∙ get_or-append-add front list (i + 1) 0 in
    omega arith
