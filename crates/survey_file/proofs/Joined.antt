-- Laws of lists one behind the other: their length, where each of them stands, and the rows of a buffer that is made so.
-- Assumes nothing.
use mathlib.Core.Path.{◌≡◌, refl, sym, ap, ◌∙◌}
use mathlib.Core.Logic.{⊎_elim}
use mathlib.Core.List.{List, [], ◌++◌, append-nil, append_assoc}
use Prim.Native.Nat.{ℕ, zero, suc, ◌+◌, ◌*◌, ◌<◌}
use native.Mathlib.Nat.{eq-or-lt_of_le, le_of_suc-le-suc}
use native.Mathlib.Omega.{arith}
use lib.ListN.{length, take, drop, length-append, length-drop}
use lib.Seq.{length-take-le, take_at, drop_at, take-add, take-length}
use Rattle.counting.specs.Words.{sum_of}
use Rattle.counting.specs.Buffers.{joined}
use Rattle.counting.proofs.Sums.{sum_of-same, sum_of-even}
use Rattle.counting.proofs.Tables.{row_within}
use Rattle.survey.specs.Rows.{row_at}

-- equal lists make the same list
pub joined_same : (n : ℕ) (f g : ℕ → List ℕ) → ((i : ℕ) → i < n → f i ≡ g i) → joined n f ≡ joined n g
unfolding joined
joined_same zero f g h = refl
joined_same (suc n) f g h = rw (joined_same n f g (λ i l. h i (omega arith)), h n (omega arith)) refl

-- the length is the sum of the lengths
pub joined_length : (n : ℕ) (f : ℕ → List ℕ) → length (joined n f) ≡ sum_of n (λ i. length (f i))
unfolding joined
joined_length zero f = refl
joined_length (suc n) f = omega (arith, length-append (joined n f) (f n), joined_length n f)

-- n lists of one length
pub joined-even : (n x : ℕ) (f : ℕ → List ℕ) → ((i : ℕ) → i < n → length (f i) ≡ x) → length (joined n f) ≡ n * x
joined-even n x f h = joined_length n f ∙ sum_of-same n (λ i. length (f i)) (λ i. x) h ∙ sum_of-even n x

-- the list i stands behind those before it
pub joined-split : (n : ℕ) (f : ℕ → List ℕ) (y : List ℕ) (i : ℕ) → i < n → (z : List ℕ) × (joined n f ++ y ≡ joined i f ++ (f i ++ z))
unfolding joined
joined-split zero f y i l = absurd (omega arith)
joined-split (suc n) f y i l =
    ⊎_elim (λ e. (y, rw e (append_assoc (joined n f) (f n) y)))
    (λ k. let (z, q) = joined-split n f (f n ++ y) i k in (z, append_assoc (joined n f) (f n) y ∙ q)) (eq-or-lt_of_le (le_of_suc-le-suc l))

-- of rows of m bytes the row i is the list i
pub joined-row : (n m : ℕ) (f : ℕ → List ℕ) → ((i : ℕ) → i < n → length (f i) ≡ m) → (i : ℕ) → i < n → row_at m (joined n f) i ≡ f i
joined-row n m f h i l =
    let (z, q) = joined-split n f [] i l in
    let before : length (joined i f) ≡ i * m = joined-even i m f (λ j k. h j (omega arith)) in
    ap (λ (x : List ℕ). take m (drop (i * m) x)) (sym (append-nil (joined n f)) ∙ q)
    ∙ ap (λ (x : List ℕ). take m x) (drop_at (joined i f) (f i ++ z) (i * m) before)
    ∙ take_at (f i) z m (h i l)

-- a row of a buffer of n rows has m bytes
pub row-size : (n m : ℕ) (rows : List ℕ) → length rows ≡ n * m → (i : ℕ) → i < n → length (row_at m rows i) ≡ m
row-size n m rows e i l = length-take-le m (drop (i * m) rows) (omega (arith, length-drop (i * m) rows, row_within n m i l))

-- the first n rows of a buffer
rows-front : (m : ℕ) (rows : List ℕ) (n : ℕ) → joined n (row_at m rows) ≡ take (n * m) rows
unfolding joined
rows-front m rows zero = let none : 0 ≡ 0 * m = omega arith in ap (λ (x : ℕ). take x rows) none
rows-front m rows (suc n) =
    let next : n * m + m ≡ suc n * m = omega arith in
    ap (λ (x : List ℕ). x ++ row_at m rows n) (rows-front m rows n) ∙ sym (take-add (n * m) m rows) ∙ ap (λ (x : ℕ). take x rows) next

-- a buffer is its rows
pub rows-joined : (n m : ℕ) (rows : List ℕ) → length rows ≡ n * m → joined n (row_at m rows) ≡ rows
rows-joined n m rows e = rows-front m rows n ∙ ap (λ (x : ℕ). take x rows) (sym e) ∙ take-length rows
