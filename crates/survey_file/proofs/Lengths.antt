-- The length of a survey file: what it is, that no accepted survey has a longer one than most_file, and that full lists of all sites have so long a one.
-- Assumes nothing.
use mathlib.Core.Path.{◌≡◌, refl, ap, ◌∙◌}
use mathlib.Core.Bool.{Bool, true, false}
use mathlib.Core.List.{List, [], ◌++◌}
use Prim.Native.Nat.{ℕ, ◌+◌, ◌*◌, ◌≤◌, ◌<◌, zero-le}
use native.Mathlib.Omega.{arith}
use lib.ListN.{length, length-append}
use Rattle.counting.specs.Bounds.{most_streets, most_sites}
use Rattle.counting.specs.Words.{sum_of}
use Rattle.counting.specs.Lists.{at}
use Rattle.counting.specs.Buffers.{joined}
use Rattle.counting.proofs.Sums.{sum_of-same, sum_of-le, sum_of-even}
use Rattle.survey.specs.Town.{Town}
use Rattle.survey.specs.Rows.{list_of_street}
use Rattle.survey.specs.Accepted.{Accepted}
use Rattle.survey_file.specs.Filed.{Filed}
use Rattle.survey_file.specs.Encode.{end_mark, word, town_bytes, scores_bytes, weights_bytes, street_bytes, encode, most_file}
use Rattle.survey_file.specs.Decode.{weights_size}
use Rattle.survey_file.proofs.Joined.{joined-even, joined_length}
use Rattle.survey_file.proofs.Weights.{weights-length}
use Rattle.survey_file.proofs.Rows.{street-short}

-- n numbers, none above x, come to no more than n times x
sum_of-most : (n x : ℕ) (f : ℕ → ℕ) → ((i : ℕ) → i < n → f i ≤ x) → sum_of n f ≤ n * x
sum_of-most n x f h = omega (arith, sum_of-le n f (λ i. x) h, sum_of-even n x)

-- HW has 2 bytes and n
pub size-most : (new_form : Bool) (n : ℕ) → weights_size new_form n ≤ 2 + n
size-most false n = zero-le
size-most true n = omega arith

module _ (f : Filed) where
  -- the town
  abbrev t : Town
  t = f.town

  -- the bytes of the record of the street i
  abbrev record_length : ℕ → ℕ
  record_length i = 5 + length (list_of_street t i)

  -- the records' lengths make the file's
  pub encode-length : length t.weights ≡ t.n
      → length (encode f) ≡ 7 + (2 + 2 * t.m) + weights_size f.new_form t.n + sum_of t.n record_length + 2
  unfolding encode
  encode-length fit =
      let front : List ℕ = town_bytes f.new_form t.n t.m f.k f.kind ++ scores_bytes t.m t.scores in
      let weights : List ℕ = weights_bytes f.new_form t.weights in
      let street : ℕ → List ℕ = street_bytes t.m t.rows in
      let lists : List ℕ = joined t.n street in
      let table : length (joined t.m (λ i. word (at t.scores i))) ≡ t.m * 2 = joined-even t.m 2 (λ i. word (at t.scores i)) (λ i l. refl) in
      let size : length lists ≡ sum_of t.n record_length =
      joined_length t.n street ∙ sum_of-same t.n (λ i. length (street i)) record_length (λ i l. omega arith) in
      let each : length weights ≡ weights_size f.new_form t.n = weights-length t.n t.weights [] fit f.new_form in
      omega (arith, length-append (front ++ weights) (lists ++ word end_mark), length-append front weights, length-append lists (word end_mark))

  -- no accepted survey has a longer file
  pub encode-most : Accepted t → length (encode f) ≤ most_file
  encode-most ok =
      let streets : t.n ≤ most_streets = ok.few-streets in
      let sites : t.m ≤ most_sites = ok.few-sites in
      let lists : sum_of t.n record_length ≤ t.n * (5 + most_sites) =
      sum_of-most t.n (5 + most_sites) record_length (λ i l. omega (arith, street-short ok i l)) in
      omega (arith, encode-length ok.weights-fit, size-most f.new_form t.n)

  -- the file of n lists of m sites each
  full-length : length t.weights ≡ t.n → ((i : ℕ) → i < t.n → length (list_of_street t i) ≡ t.m)
      → length (encode f) ≡ 7 + (2 + 2 * t.m) + weights_size f.new_form t.n + t.n * (5 + t.m) + 2
  full-length fit full =
      encode-length fit
      ∙ ap (λ (x : ℕ). 7 + (2 + 2 * t.m) + weights_size f.new_form t.n + x + 2)
      (sum_of-same t.n record_length (λ i. 5 + t.m) (λ i l. ap (λ (x : ℕ). 5 + x) (full i l)) ∙ sum_of-even t.n (5 + t.m))

  -- in the new form, with all streets, all sites and full lists, a file is that long
  pub encode-longest : f.new_form ≡ true → t.n ≡ most_streets → t.m ≡ most_sites → length t.weights ≡ t.n
      → ((i : ℕ) → i < t.n → length (list_of_street t i) ≡ t.m) → length (encode f) ≡ most_file
  encode-longest new all-streets all-sites fit full = full-length fit full ∙ rw (new, all-streets, all-sites) refl
