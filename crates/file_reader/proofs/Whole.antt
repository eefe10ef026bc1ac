-- Laws of a file's check, record by record: where it stops, and what has been read where it goes on.
-- Assumes nothing.
use mathlib.Core.Path.{◌≡◌, sym, ap, ◌∙◌}
use mathlib.Core.Bool.{Bool, true}
use mathlib.Core.List.{List}
use Prim.Native.Nat.{ℕ, ◌+◌, ◌*◌, ◌≤◌}
use native.Mathlib.Omega.{arith}
use lib.ListN.{length, drop, length-drop}
use lib.Seq.{drop-drop}
use Rattle.counting.proofs.Refusals.{or-zero}
use Rattle.call_answers.specs.declared.Refusal.{Refusal}
use Rattle.call_answers.specs.Answers.{number_of}
use Rattle.call_answers.proofs.Refused.{or-refused, or-accepted}
use Rattle.survey_file.specs.declared.Sizes.{Sizes}
use Rattle.survey_file.specs.Sizes.{sizes_in}
use Rattle.survey_file.specs.Encode.{town_mark, scores_mark, weights_mark}
use Rattle.survey_file.specs.Decode.{mark_refusal, town_fields, scores_fields, weights_fields, weights_record, weights_size, streets_and_end}
use Rattle.survey_file.specs.Decode.{form_in, streets_in, sites_in, scores_part, weights_part, streets_part, file_refusal, FileTaken}
use Rattle.file_reader.specs.declared.records.Due.TheVariants as due
use Rattle.file_reader.specs.Answers.{mark_of, record_refusal}
use Rattle.file_reader.proofs.Reading.{town-long, scores-long, weights-long}

-- ---- behind a record that was read there is a place for the next one
module _ (file : List ℕ) (count : ℕ) where
  on : (size : ℕ) → count ≤ length file → size ≤ length (drop count file) → count + size ≤ length file
  on size within there = omega (arith, within, there, length-drop count file)

  pub past-town : count ≤ length file → 0 ≡ record_refusal due.Town (drop count file) → count + 7 ≤ length file
  unfolding mark_of
  past-town within z =
      let rest : List ℕ = drop count file in
      on 7 within (town-long rest (sym (or-zero (mark_refusal (town_mark (form_in rest)) rest) (town_fields rest) (sym z)).1))

  pub past-scores : (m : ℕ) → count ≤ length file → 0 ≡ record_refusal (due.Scores m) (drop count file) → count + (2 + 2 * m) ≤ length file
  unfolding mark_of
  past-scores m within z =
      let rest : List ℕ = drop count file in
      on (2 + 2 * m) within (scores-long m rest (sym (or-zero (mark_refusal scores_mark rest) (scores_fields m rest) (sym z)).1))

  pub past-weights : (n : ℕ) → count ≤ length file → 0 ≡ record_refusal (due.Weights n) (drop count file) → count + (2 + n) ≤ length file
  unfolding mark_of
  past-weights n within z =
      let rest : List ℕ = drop count file in
      on (2 + n) within (weights-long n rest (sym (or-zero (mark_refusal weights_mark rest) (weights_fields n rest) (sym z)).1))

-- the record of the weights in a file of the new form
pub weights-new : (n : ℕ) (new_form : Bool) (rest : List ℕ) → new_form ≡ true → record_refusal (due.Weights n) rest ≡ weights_record new_form n rest
unfolding mark_of
weights-new n new_form rest new = ap (λ (b : Bool). weights_record b n rest) (sym new)

-- ---- the four parts of a file's refusals
module _ (file : List ℕ) where
  -- the town
  pub town-stops : (e : Refusal) → number_of e ≡ record_refusal due.Town file → number_of e ≡ file_refusal file
  unfolding mark_of file_refusal
  town-stops e q = sym (or-refused e _ _ q)

  -- the town was read, and the rest begins with the scores
  pub record AtScores (sizes : Sizes) (rest : List ℕ) : Type 0 where
    pub town : 0 ≡ record_refusal due.Town file
    pub sizes-are : sizes ≡ sizes_in file
    pub rest-is : rest ≡ scores_part file

  pub at-scores : {start : List ℕ} {sizes : Sizes} {more : List ℕ} → start ≡ file → 0 ≡ record_refusal due.Town start → sizes ≡ sizes_in start
      → more ≡ drop 7 start → AtScores sizes more
  at-scores s z q r = record { town = rw s at z; sizes-are = rw s at q; rest-is = rw s at r }

  pub scores-stop : {sizes : Sizes} {rest : List ℕ} → AtScores sizes rest → (e : Refusal) → number_of e ≡ record_refusal (due.Scores sizes.m) rest
      → number_of e ≡ file_refusal file
  unfolding mark_of file_refusal
  scores-stop {sizes} {rest} h e q =
      let here = q ∙ ap (λ (s : Sizes). record_refusal (due.Scores s.m) rest) h.sizes-are ∙ ap (record_refusal (due.Scores (sites_in file))) h.rest-is in
      sym (or-accepted _ _ h.town ∙ or-refused e _ _ here)

  -- the scores were read, and the rest begins with the weights of a new file
  pub record AtWeights (sizes : Sizes) (rest : List ℕ) : Type 0 where
    pub town : 0 ≡ record_refusal due.Town file
    pub sizes-are : sizes ≡ sizes_in file
    pub scores : 0 ≡ record_refusal (due.Scores (sites_in file)) (scores_part file)
    pub rest-is : rest ≡ weights_part file

  pub at-weights : {sizes : Sizes} {rest more : List ℕ} → AtScores sizes rest → 0 ≡ record_refusal (due.Scores sizes.m) rest
      → more ≡ drop (2 + 2 * sizes.m) rest → AtWeights sizes more
  at-weights {sizes} {rest} h z q =
      let start : 7 + (2 + 2 * sites_in file) ≡ 9 + 2 * sites_in file = omega arith in
      record {
        town = h.town;
        sizes-are = h.sizes-are;
        scores = z ∙ ap (λ (s : Sizes). record_refusal (due.Scores s.m) rest) h.sizes-are ∙ ap (record_refusal (due.Scores (sites_in file))) h.rest-is;
        rest-is = q ∙ ap (λ (s : Sizes). drop (2 + 2 * s.m) rest) h.sizes-are ∙ ap (drop (2 + 2 * sites_in file)) h.rest-is
            ∙ drop-drop (2 + 2 * sites_in file) 7 file ∙ ap (λ (x : ℕ). drop x file) start;
      }

  pub weights-stop : {sizes : Sizes} {rest : List ℕ} → AtWeights sizes rest → (e : Refusal) → number_of e ≡ weights_record sizes.new_form sizes.n rest
      → number_of e ≡ file_refusal file
  unfolding mark_of file_refusal
  weights-stop {sizes} {rest} h e q =
      let here = q ∙ ap (λ (s : Sizes). weights_record s.new_form s.n rest) h.sizes-are ∙ ap (weights_record (form_in file) (streets_in file)) h.rest-is in
      sym (or-accepted _ _ h.town ∙ or-accepted _ _ h.scores ∙ or-refused e _ _ here)

  -- all but the streets was read, and the rest begins with them
  pub record AtStreets (sizes : Sizes) (rest : List ℕ) : Type 0 where
    pub town : 0 ≡ record_refusal due.Town file
    pub sizes-are : sizes ≡ sizes_in file
    pub scores : 0 ≡ record_refusal (due.Scores (sites_in file)) (scores_part file)
    pub weights : 0 ≡ weights_record (form_in file) (streets_in file) (weights_part file)
    pub rest-is : rest ≡ streets_part file

  pub at-streets : {sizes : Sizes} {rest more : List ℕ} → AtWeights sizes rest → 0 ≡ weights_record sizes.new_form sizes.n rest
      → more ≡ drop (weights_size sizes.new_form sizes.n) rest → AtStreets sizes more
  at-streets {sizes} {rest} h z q =
      record {
        town = h.town;
        sizes-are = h.sizes-are;
        scores = h.scores;
        weights = z ∙ ap (λ (s : Sizes). weights_record s.new_form s.n rest) h.sizes-are ∙ ap (weights_record (form_in file) (streets_in file)) h.rest-is;
        rest-is = q ∙ ap (λ (s : Sizes). drop (weights_size s.new_form s.n) rest) h.sizes-are
            ∙ ap (drop (weights_size (form_in file) (streets_in file))) h.rest-is
            ∙ drop-drop (weights_size (form_in file) (streets_in file)) (9 + 2 * sites_in file) file;
      }

  module _ {sizes : Sizes} {rest : List ℕ} (h : AtStreets sizes rest) where
    streets-number : (x : ℕ) → x ≡ streets_and_end sizes.n sizes.m rest → x ≡ streets_and_end (streets_in file) (sites_in file) (streets_part file)
    streets-number x q =
        q ∙ ap (λ (s : Sizes). streets_and_end s.n s.m rest) h.sizes-are ∙ ap (streets_and_end (streets_in file) (sites_in file)) h.rest-is

    pub streets-decide : (x : ℕ) → x ≡ streets_and_end sizes.n sizes.m rest → x ≡ file_refusal file
    unfolding mark_of file_refusal
    streets-decide x q = streets-number x q ∙ sym (or-accepted _ _ h.town ∙ or-accepted _ _ h.scores ∙ or-accepted _ _ h.weights)

    pub all-taken : 0 ≡ streets_and_end sizes.n sizes.m rest → FileTaken file sizes.n sizes.m sizes.new_form
    all-taken q =
        record {
          ok = sym (streets-decide 0 q);
          streets = ap (λ (s : Sizes). s.n) h.sizes-are;
          sites = ap (λ (s : Sizes). s.m) h.sizes-are;
          form = ap (λ (s : Sizes). s.new_form) h.sizes-are;
        }
