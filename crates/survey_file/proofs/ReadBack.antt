-- A written file is read back: an accepted survey with its kind and form comes out of its file's bytes as it went in.
-- Assumes nothing.
use mathlib.Core.Path.{◌≡◌, refl, sym, ap, ◌∙◌}
use mathlib.Core.Bool.{Bool}
use mathlib.Core.List.{List, [], ◌∷◌, ◌++◌, append_assoc}
use Prim.Native.Nat.{ℕ, zero, suc, ◌+◌, ◌-◌, ◌*◌}
use native.Mathlib.Nat.{suc-ne-zero}
use native.Mathlib.Omega.{arith}
use lib.ListN.{length, drop, replicate}
use lib.Seq.{drop_at, drop-drop}
use Rattle.counting.specs.Words.{◌or_else◌}
use Rattle.counting.specs.Lists.{at}
use Rattle.counting.specs.Buffers.{joined}
use Rattle.counting.proofs.Refusals.{or-zero}
use Rattle.survey.specs.Town.{Town, town_of}
use Rattle.survey.specs.Rows.{row_of, list_of_street}
use Rattle.survey.specs.Refusals.{streets_refusal, sites_refusal, chosen_refusal, kind_refusal, scores_refusal, weights_refusal, length_refusal, survey_refusal}
use Rattle.survey.specs.Accepted.{Accepted}
use Rattle.survey.proofs.Sound.{accepted}
use Rattle.survey_file.specs.Filed.{Filed, filed_of, form_refusal}
use Rattle.survey_file.specs.Encode.{town_mark, scores_mark, end_mark, word, town_bytes, scores_bytes, weights_bytes, streets_bytes, encode}
use Rattle.survey_file.specs.Decode.{mark_refusal, town_fields, scores_in, scores_fields, weights_in, weights_record, weights_size, streets_and_end, past}
use Rattle.survey_file.specs.Decode.{form_in, streets_in, scores_part, weights_part, streets_part, file_refusal, row_from, town_in, filed_in}
use Rattle.survey_file.specs.Decode.{Decoded, Given, given_unless, decode}
use Rattle.survey_file.proofs.Tries.{both}
use Rattle.survey_file.proofs.Joined.{joined-even, joined_same, rows-joined}
use Rattle.survey_file.proofs.Bytes.{word_back}
use Rattle.survey_file.proofs.Weights.{weights-right, weights-back, weights-behind}
use Rattle.survey_file.proofs.Rows.{street-short, street-sound, street-row}
use Rattle.survey_file.proofs.Records.{form-back, town-right, scores-back, scores-right}
use Rattle.survey_file.proofs.Streets.{list_at, streets-right}

-- what is given where nothing is refused
given-none : (x : ℕ) (given : Decoded) → x ≡ 0 → given_unless x given ≡ given
given-none zero given e = refl
given-none (suc x) given e = absurd (suc-ne-zero x e)

-- towns are the same where the numbers of streets, the scores, the weights and the rows are
town-same : (n n' m : ℕ) (scores scores' weights weights' rows rows' : List ℕ) → n ≡ n' → scores ≡ scores' → weights ≡ weights' → rows ≡ rows'
    → town_of n m scores weights rows ≡ town_of n' m scores' weights' rows'
town-same n n' m scores scores' weights weights' rows rows' a b c d = rw (a, b, c, d) refl

-- and so is what a file holds
filed-same : (a b : Bool) (t t' : Town) (k kind : ℕ) → a ≡ b → t ≡ t' → filed_of a t k kind ≡ filed_of b t' k kind
filed-same a b t t' k kind d e = rw (d, e) refl

module _ (f : Filed) where
  -- the town, and its file
  abbrev t : Town
  t = f.town

  abbrev file : List ℕ
  file = encode f

  -- the record SC
  abbrev table : List ℕ
  table = scores_bytes t.m t.scores

  -- the record HW
  abbrev weights : List ℕ
  weights = weights_bytes f.new_form t.weights

  -- the street records and the end
  abbrev streets : List ℕ
  streets = streets_bytes t.n t.m t.rows

  -- what stands behind TN or TW
  behind-town : scores_part file ≡ table ++ (weights ++ streets)
  unfolding encode
  behind-town = append_assoc table weights streets

  -- what stands behind SC
  behind-scores : weights_part file ≡ weights ++ streets
  unfolding encode
  behind-scores =
      let front : List ℕ = town_bytes f.new_form t.n t.m f.k f.kind ++ table in
      let size : length front ≡ 9 + 2 * t.m = omega (arith, joined-even t.m 2 (λ i. word (at t.scores i)) (λ i l. refl)) in
      ap (λ (x : List ℕ). drop (9 + 2 * t.m) x) (append_assoc front weights streets)
      ∙ drop_at front (weights ++ streets) (9 + 2 * t.m) size

  -- the number of streets comes back
  streets-back : streets_in file ≡ t.n
  unfolding encode
  streets-back = word_back t.n

  -- and the form
  form-read : form_in file ≡ f.new_form
  unfolding encode
  form-read = form-back f.new_form (word t.n ++ (t.m ∷ f.k ∷ f.kind ∷ []) ++ table ++ weights ++ streets)

  module _ (e : survey_refusal t f.k (kind_refusal f.kind) ≡ 0) where
    -- what holds of the survey
    ok : Accepted t
    ok = accepted t f.k (kind_refusal f.kind) e

    -- each try of the survey that a record repeats
    tries : (streets_refusal t.n ≡ 0) × (sites_refusal t.m ≡ 0) × (chosen_refusal f.k t.m ≡ 0) × (kind_refusal f.kind ≡ 0)
        × (scores_refusal t.scores ≡ 0) × (weights_refusal t.weights ≡ 0)
    tries =
        let (a, e₁) = or-zero (streets_refusal t.n) _ e in
        let (b, e₂) = or-zero (sites_refusal t.m) _ e₁ in
        let (c, e₃) = or-zero (chosen_refusal f.k t.m) _ e₂ in
        let (d, e₄) = or-zero (kind_refusal f.kind) _ e₃ in
        let (g, e₅) = or-zero (length_refusal (length t.scores) t.m) _ e₄ in
        let (w, e₆) = or-zero (length_refusal (length t.weights) t.n) _ e₅ in
        let (r, e₇) = or-zero (length_refusal (length t.rows) (t.n * t.m)) _ e₆ in
        let (h, e₈) = or-zero (scores_refusal t.scores) _ e₇ in
        let (l, e₉) = or-zero (weights_refusal t.weights) _ e₈ in
        (a, b, c, d, h, l)

    -- TN or TW is accepted
    sizes-accepted : mark_refusal (town_mark (form_in file)) file or_else town_fields file ≡ 0
    unfolding encode
    sizes-accepted =
        let (a, b, c, d, g, h) = tries in
        town-right f.new_form t.n t.m f.k f.kind (table ++ weights ++ streets) a b c d

    -- SC is accepted
    scores-accepted : mark_refusal scores_mark (scores_part file) or_else scores_fields t.m (scores_part file) ≡ 0
    scores-accepted =
        ap (λ (x : List ℕ). mark_refusal scores_mark x or_else scores_fields t.m x) behind-town
        ∙ scores-right t.m t.scores (weights ++ streets) ok.scores-fit tries.4

    -- HW is accepted
    weights-accepted : weights_record (form_in file) (streets_in file) (weights_part file) ≡ 0
    weights-accepted = rw (form-read, streets-back, behind-scores) (weights-right t.n t.weights streets ok.weights-fit f.new_form tries.5)

    -- what stands behind HW
    behind-weights : streets_part file ≡ streets
    unfolding encode
    behind-weights =
        sym (drop-drop (weights_size (form_in file) (streets_in file)) (9 + 2 * t.m) file)
        ∙ rw (form-read, streets-back, behind-scores) (weights-behind t.n t.weights streets ok.weights-fit f.new_form)

    -- the street records and the end are accepted
    streets-accepted : streets_and_end (streets_in file) t.m (streets_part file) ≡ 0
    streets-accepted =
        ap (λ (x : ℕ). streets_and_end x t.m (streets_part file)) streets-back
        ∙ ap (λ (x : List ℕ). streets_and_end t.n t.m x) behind-weights
        ∙ streets-right (list_of_street t) t.n t.m (street-short ok) (street-sound ok)

    -- a written file is accepted
    pub encode-accepted : file_refusal (encode f) ≡ 0
    unfolding encode file_refusal
    encode-accepted = both _ _ sizes-accepted (both _ _ scores-accepted (both _ _ weights-accepted streets-accepted))

    -- the scores come back
    scores-read : scores_in t.m (scores_part file) ≡ t.scores
    scores-read = ap (λ (x : List ℕ). scores_in t.m x) behind-town ∙ scores-back t.m t.scores (weights ++ streets) ok.scores-fit

    -- the row that is read from the record of a street
    abbrev row_in : List ℕ → ℕ → List ℕ
    row_in rest i = row_from t.m (past rest i)

    -- the rows come back
    rows-read : joined (streets_in file) (row_in (streets_part file)) ≡ t.rows
    rows-read =
        ap (λ (x : ℕ). joined x (row_in (streets_part file))) streets-back
        ∙ joined_same t.n (row_in (streets_part file)) (row_of t) (λ i l.
        ap (λ (x : List ℕ). row_in x i) behind-weights
        ∙ ap (λ (x : List ℕ). x ++ replicate (t.m - length x) 0) (list_at (list_of_street t) t.n (word end_mark) i l)
        ∙ street-row ok i l)
        ∙ rows-joined t.n t.m t.rows ok.rows_fit

    module _ (kept : form_refusal f.new_form t.weights ≡ 0) where
      -- the weights come back, where the form keeps them
      weights-read : weights_in (form_in file) (streets_in file) (weights_part file) ≡ t.weights
      weights-read = rw (form-read, streets-back, behind-scores) (weights-back t.n t.weights streets ok.weights-fit f.new_form kept)

      -- the town comes back
      town-read : town_in file ≡ t
      unfolding encode
      town-read = town-same (streets_in file) t.n t.m _ t.scores _ t.weights _ t.rows streets-back scores-read weights-read rows-read

      -- what a written file holds is what was written
      pub filed-encode : filed_in (encode f) ≡ f
      unfolding encode
      filed-encode = filed-same (form_in file) f.new_form (town_in file) t f.k f.kind form-read town-read

      -- and it is what is read from it
      pub decode-encode : decode (encode f) ≡ Given f
      unfolding decode
      decode-encode = given-none (file_refusal file) (Given (filed_in file)) encode-accepted ∙ ap Given filed-encode
