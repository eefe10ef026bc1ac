-- Laws of converting a file that is not refused: the pieces that make the file in the form that is wanted, how long it is, and its weights.
-- Assumes nothing.
use mathlib.Core.Path.{◌≡◌, refl, sym, ap, ◌∙◌}
use mathlib.Core.Bool.{Bool, true, false}
use mathlib.Core.List.{List, [], ◌∷◌, ◌++◌, append_assoc}
use Prim.Native.Nat.{ℕ, ◌+◌, ◌-◌, ◌*◌, ◌≤◌}
use native.Mathlib.Omega.{arith}
use lib.ListN.{length, take, drop, replicate, length-drop, length-replicate, replicate-append-replicate}
use lib.Seq.{take_all, take_at, drop-drop}
use Rattle.counting.specs.Bounds.{most_streets, most_sites}
use Rattle.counting.specs.Lists.{at}
use Rattle.counting.specs.Buffers.{Written}
use Rattle.counting.proofs.Laying.{written_next}
use Rattle.survey.specs.Accepted.{Accepted}
use Rattle.survey_file.specs.Filed.{in_form}
use Rattle.survey_file.specs.Encode.{town_mark, word, scores_bytes, weights_bytes, streets_bytes, encode}
use Rattle.survey_file.specs.Decode.{weights_in, weights_size, form_in, streets_in, sites_in, chosen_in, kind_in, scores_part, weights_part, rows_in}
use Rattle.survey_file.specs.Decode.{town_in, filed_in, FileTaken}
use Rattle.survey_file.specs.FileBuffers.{converted}
use Rattle.survey_file.proofs.Joined.{joined-even}
use Rattle.survey_file.proofs.Bytes.{Bytes}
use Rattle.survey_file.proofs.Accepting.{FileSays, file-says}
use Rattle.survey_file.proofs.Fronts.{drop-bytes, town-front, scores-front}
use Rattle.survey_file.proofs.Weights.{weights-whole}
use Rattle.survey_file.proofs.Lengths.{encode-length}
use Rattle.survey_file.proofs.WrittenBack.{streets-written, encode-decode, town-accepted}
use Rattle.file_converter.specs.Pieces.{pieced}

module _ (file : List ℕ) (n m : ℕ) (new_form : Bool) (taken : FileTaken file n m new_form) where
  -- what the records show
  says : FileSays file
  says = file-says file taken.ok

  -- the town that it holds
  held : Accepted (town_in file)
  held = town-accepted file taken.ok

  -- the streets and sites are few
  pub few : (n ≤ most_streets) × (m ≤ most_sites)
  few = (omega (arith, taken.streets, held.few-streets), omega (arith, taken.sites, held.few-sites))

  -- the scores and the weights stand in the file
  pub scores-there : 9 + 2 * m ≤ length file
  scores-there = omega (arith, says.scores.whole, length-drop 7 file, says.town.whole, taken.sites)

  pub weights-there : 9 + 2 * m + weights_size new_form n ≤ length file
  weights-there =
      rw (taken.form, taken.streets, taken.sites)
      (omega (
        arith,
        weights-whole (streets_in file) (weights_part file) (form_in file) says.weights,
        length-drop (9 + 2 * sites_in file) file,
        rw taken.sites at scores-there,
      ))

  pub new-there : new_form ≡ true → 11 + 2 * m + n ≤ length file
  new-there new = let size : weights_size new_form n ≡ 2 + n = ap (λ (b : Bool). weights_size b n) new in omega (arith, weights-there)

  -- the bytes behind the first mark, up to the end of the scores, are those of either form
  front-taken : Bytes file → take (7 + 2 * m) (drop 2 file) ≡ word (streets_in file) ++ (sites_in file ∷ chosen_in file ∷ kind_in file ∷ [])
      ++ scores_bytes (sites_in file) (town_in file).scores
  front-taken bytes =
      let sizes : List ℕ = word (streets_in file) ++ (sites_in file ∷ chosen_in file ∷ kind_in file ∷ []) in
      let table : List ℕ = scores_bytes (sites_in file) (town_in file).scores in
      let rest : List ℕ = drop (2 + 2 * sites_in file) (scores_part file) in
      let behind : drop 2 file ≡ sizes ++ scores_part file = ap (λ (x : List ℕ). drop 2 x) (town-front file bytes says.town) in
      let scores : scores_part file ≡ table ++ rest = scores-front (sites_in file) (scores_part file) (drop-bytes file 7 bytes) says.scores in
      let size : length (sizes ++ table) ≡ 7 + 2 * m
      = omega (arith, taken.sites, joined-even (sites_in file) 2 (λ i. word (at (town_in file).scores i)) (λ i l. refl))
      in
      ap (λ (x : List ℕ). take (7 + 2 * m) x) (behind ∙ ap (λ (x : List ℕ). sizes ++ x) scores ∙ sym (append_assoc sizes table rest))
      ∙ take_at (sizes ++ table) rest (7 + 2 * m) size

  -- the pieces make the file in the form that is wanted
  pub pieces_are : Bytes file → (wanted : Bool) (weights : List ℕ) (streets : ℕ) → weights ≡ (town_in file).weights
      → streets ≡ 9 + 2 * m + weights_size new_form n → pieced wanted file m weights streets ≡ converted wanted file
  unfolding encode
  pieces_are bytes wanted weights streets same place =
      let lists : drop streets file ≡ streets_bytes (streets_in file) (sites_in file) (rows_in file)
      = ap (λ (x : ℕ). drop x file) place
      ∙ rw (taken.form, taken.streets, taken.sites) (streets-written file taken.ok bytes)
      in
      rw (front-taken bytes, same, lists) refl

  -- how long it is
  pub converted-size : Bytes file → (wanted : Bool) → length (converted wanted file) ≡ length file - weights_size new_form n + weights_size wanted n
  converted-size bytes wanted =
      let fit : length (town_in file).weights ≡ streets_in file = held.weights-fit in
      let own = sym (ap length (encode-decode file taken.ok bytes)) ∙ encode-length (filed_in file) fit in
      rw (taken.form, taken.streets) (omega (arith, own, encode-length (in_form wanted (filed_in file)) fit))

  -- ---- its weights
  -- in a new file they stand behind the mark of HW
  pub weights-new : new_form ≡ true → (size : ℕ) → size ≡ n → take size (drop (11 + 2 * m) file) ≡ (town_in file).weights
  weights-new new size all =
      let place : 9 + 2 * m + 2 ≡ 11 + 2 * m = omega arith in
      ap (λ (x : ℕ). take x (drop (11 + 2 * m) file)) all ∙ ap (λ (x : ℕ). take n (drop x file)) (sym place)
      ∙ ap (λ (x : List ℕ). take n x) (sym (drop-drop 2 (9 + 2 * m) file))
      ∙ rw (taken.streets, taken.sites) (ap (λ (b : Bool). weights_in b (streets_in file) (weights_part file)) (sym new ∙ taken.form))

  -- in an old one each is 1
  pub weights-old : new_form ≡ false → replicate n 1 ≡ (town_in file).weights
  weights-old old = rw taken.streets (ap (λ (b : Bool). weights_in b (streets_in file) (weights_part file)) (sym old ∙ taken.form))

-- ---- the pieces of any file, as they are written
module _ (file : List ℕ) (m : ℕ) (weights : List ℕ) (streets : ℕ) (wanted : Bool) where
  -- the bytes up to the end of the scores, as they are lent
  scores-lent : take (9 + 2 * m - 2) (drop 2 file) ≡ take (7 + 2 * m) (drop 2 file)
  scores-lent = let size : 9 + 2 * m - 2 ≡ 7 + 2 * m = omega arith in ap (λ (x : ℕ). take x (drop 2 file)) size

  -- and those from the streets on
  streets-lent : take (length file - streets) (drop streets file) ≡ drop streets file
  streets-lent = take_all (length file - streets) (drop streets file) (omega (arith, length-drop streets file))

  -- written one behind the other they are laid over the buffer
  pub pieces-written : {mark : ℕ} {before a b c after : List ℕ} {i j l next : ℕ} → mark ≡ town_mark wanted → Written before 0 (word mark) a i
      → Written a i (take (9 + 2 * m - 2) (drop 2 file)) b j → Written b j (weights_bytes wanted weights) c l
      → Written c l (take (length file - streets) (drop streets file)) after next
      → Written before 0 (pieced wanted file m weights streets) after next
  pieces-written e first scores each lists =
      written_next (written_next (written_next (rw e at first) (rw scores-lent at scores)) each) (rw streets-lent at lists)

-- the first of an array of ones
pub front-ones : (n : ℕ) → n ≤ most_streets → take n (replicate {A = ℕ} most_streets 1) ≡ replicate n 1
front-ones n few =
    let rest : List ℕ = replicate (most_streets - n) 1 in
    let all : n + (most_streets - n) ≡ most_streets = omega arith in
    let whole : replicate n 1 ++ rest ≡ replicate most_streets 1 =
    replicate-append-replicate n (most_streets - n) 1 ∙ ap (λ (x : ℕ). replicate x 1) all in
    ap (take n) (sym whole) ∙ take_at (replicate n 1) rest n (length-replicate n 1)
