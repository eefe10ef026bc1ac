-- The parts of a file: how long each of them is, what the loops over a list and over the streets have written, and the file made of them.
-- Assumes nothing.
use mathlib.Core.Path.{◌≡◌, refl, sym, ap, ◌∙◌}
use mathlib.Core.Bool.{Bool, true, false}
use mathlib.Core.List.{List, [], ◌++◌}
use Prim.Native.Nat.{ℕ, ◌+◌, ◌*◌, ◌≤◌}
use native.Mathlib.Nat.{le_antisymm}
use native.Mathlib.Numerals.{add-one}
use native.Mathlib.Omega.{arith}
use lib.ListN.{length, drop, length-append, length-take}
use Rattle.counting.specs.Bounds.{most_streets, most_sites}
use Rattle.counting.specs.Lists.{at}
use Rattle.counting.specs.Buffers.{joined, Written}
use Rattle.counting.proofs.Laying.{joined-next, turns-none, written_next}
use Rattle.survey.specs.Town.{Town, town_of}
use Rattle.survey.specs.Rows.{row_at, ranked_part}
use Rattle.survey_file.specs.Filed.{Filed, filed_of}
use Rattle.survey_file.specs.Encode.{weights_mark, word, town_bytes, scores_bytes, weights_bytes, list_bytes, street_bytes, encode, end_mark}
use Rattle.survey_file.specs.Decode.{weights_size}
use Rattle.survey_file.specs.FileBuffers.{file_written}
use Rattle.survey.proofs.Lists.{ranked-length}
use Rattle.survey_file.proofs.Joined.{joined-even}
use Rattle.survey_file.proofs.Weights.{weights-length}

-- ---- lengths
-- the length of the record SC
scores-length : (m : ℕ) (scores : List ℕ) → length (scores_bytes m scores) ≡ 2 + 2 * m
scores-length m scores = omega (arith, joined-even m 2 (λ i. word (at scores i)) (λ i l. refl))

-- the length of a file, by its records
pub records-length : (f : Filed) → let t = f.town in
    length (encode f) ≡ 7 + length (scores_bytes t.m t.scores) + length (weights_bytes f.new_form t.weights)
    + length (joined t.n (street_bytes t.m t.rows)) + 2
unfolding encode
records-length f =
    let t : Town = f.town in
    let table : List ℕ = joined t.m (λ i. word (at t.scores i)) in
    let weights : List ℕ = weights_bytes f.new_form t.weights in
    let streets : List ℕ = joined t.n (street_bytes t.m t.rows) in
    omega (arith, length-append (table ++ weights) (streets ++ word end_mark), length-append table weights, length-append streets (word end_mark))

-- a street's list has at most m sites
pub list-short : (m : ℕ) (rows : List ℕ) (s : ℕ) → length (ranked_part (row_at m rows s)) ≤ m
list-short m rows s = omega (arith, ranked-length (row_at m rows s), length-take m (drop (s * m) rows))

-- ---- the streets
module _ (m : ℕ) (rows : List ℕ) (s : ℕ) (list : List ℕ) (same : list ≡ ranked_part (row_at m rows s)) where
  -- the record ST of a street, whose list was looked up
  street-is : list_bytes (s + 1) list ≡ street_bytes m rows s
  street-is = ap (λ (l : List ℕ). list_bytes (s + 1) l) same ∙ ap (λ (number : ℕ). list_bytes number (ranked_part (row_at m rows s))) (add-one s)

  -- it is short, and fits where the street's record does
  pub street-fits : (next : ℕ) (file : List ℕ) → m ≤ most_sites → next + length (street_bytes m rows s) ≤ length file
      → (length list ≤ most_sites) × (next + length (list_bytes (s + 1) list) ≤ length file)
  street-fits next file few room = (omega (arith, ap length same, list-short m rows s), omega (arith, ap length street-is))

  -- written, it is the street's record
  pub street-written : {before : List ℕ} {i : ℕ} {after : List ℕ} {next : ℕ} → Written before i (list_bytes (s + 1) list) after next
      → Written before i (street_bytes m rows s) after next
  street-written w = rw street-is at w

-- ---- the length of a file, summed up
-- the sum after the first s streets, where HW has so many bytes
pub record Sized (weights m : ℕ) (rows : List ℕ) (s size : ℕ) : Type 0 where
  pub right : size ≡ 11 + 2 * m + weights + length (joined s (street_bytes m rows))
  pub small : size ≤ 11 + 2 * most_sites + (2 + most_streets) + s * (5 + most_sites)

-- it starts with all but the streets
pub sized-none : (weights m : ℕ) (rows : List ℕ) → m ≤ most_sites → weights ≤ 2 + most_streets → Sized weights m rows 0 (11 + 2 * m + weights)
unfolding joined
sized-none weights m rows few most = record { right = omega arith; small = omega arith }

module _ {weights m : ℕ} {rows : List ℕ} {s size : ℕ} (h : Sized weights m rows s size) where
  -- one street more
  pub sized-more : (list : List ℕ) → m ≤ most_sites → list ≡ ranked_part (row_at m rows s) → Sized weights m rows (s + 1) (size + 5 + length list)
  sized-more list few same =
      let next = ap length (joined-next (street_bytes m rows) s) ∙ length-append (joined s (street_bytes m rows)) (street_bytes m rows s) in
      record {
        right = omega (arith, h.right, next, ap length same);
        small = omega (arith, h.small, ap length same, list-short m rows s);
      }

  -- all streets
  pub sized-all : (new_form : Bool) (n : ℕ) → n ≤ s → s ≤ n → weights ≡ weights_size new_form n → (k kind : ℕ) (scores each : List ℕ) → length each ≡ n
      → size ≡ length (encode (filed_of new_form (town_of n m scores each rows) k kind))
  sized-all new_form n a b e k kind scores each fit =
      omega (
        arith,
        rw (le_antisymm b a) at h.right,
        records-length (filed_of new_form (town_of n m scores each rows) k kind),
        scores-length m scores,
        weights-length n each [] fit new_form,
      )

-- ---- the file
-- its records, written one behind the other, are the file
pub encode-written : (f : Filed) {before a b c d after : List ℕ} {i j l o next : ℕ} → let t = f.town in
    Written before 0 (town_bytes f.new_form t.n t.m f.k f.kind) a i → Written a i (scores_bytes t.m t.scores) b j
    → Written b j (weights_bytes f.new_form t.weights) c l → Written c l (joined t.n (street_bytes t.m t.rows)) d o
    → Written d o (word end_mark) after next → after ≡ file_written f before
unfolding encode
encode-written f town table weights streets mark = (written_next (written_next (written_next town table) weights) (written_next streets mark)).right

-- ---- what HW is made of, by the form
-- an old file has none
pub none_written : (new_form : Bool) (weights before : List ℕ) (i : ℕ) → new_form ≡ false → i ≤ length before
    → Written before i (weights_bytes new_form weights) before i
unfolding joined
none_written new_form weights before i old room = rw old (turns-none before i (λ j. []) room)

-- in a new one it is the mark and the weights
pub new-weights : (new_form : Bool) (weights : List ℕ) → new_form ≡ true → word weights_mark ++ weights ≡ weights_bytes new_form weights
new-weights new_form weights h = ap (λ (b : Bool). weights_bytes b weights) (sym h)
