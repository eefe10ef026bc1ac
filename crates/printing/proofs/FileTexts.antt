-- What is printed for a file, from what the reader promises: the text of the survey in its buffers, or the line of the refusal.
-- Assumes nothing.
use mathlib.Core.Path.{◌≡◌, refl, sym, ap, ◌∙◌}
use mathlib.Core.Bool.{Bool}
use mathlib.Core.List.{List}
use Prim.Native.Nat.{ℕ, zero, suc, ◌*◌}
use lib.ListN.{length, take, replicate, length-replicate}
use lib.Seq.{take_at}
use Rattle.counting.specs.Bounds.{most_streets, most_sites, most_rows}
use Rattle.counting.specs.Buffers.{after, laid}
use Rattle.counting.proofs.Refusals.{own-pass}
use Rattle.survey.specs.Town.{Town, town_of}
use Rattle.survey.specs.Refusals.{kind_refusal, length_refusal, survey_refusal}
use Rattle.survey.specs.Accepted.{Accepted}
use Rattle.survey.proofs.Sound.{accepted}
use Rattle.survey_file.specs.Decode.{file_refusal, chosen_in, kind_in, town_in}
use Rattle.survey_file.proofs.Tries.{as-due}
use Rattle.refusals.specs.Inputs.{ReadInput}
use Rattle.refusals.specs.Refusals.{read_refusal}
use Rattle.file_calls.specs.Calls.{FileRead}
use Rattle.std.specs.Prelude.{Result, Ok, Err}
use Rattle.call_answers.specs.declared.Refusal.{Refusal}
use Rattle.call_answers.specs.Answers.{number_of, accepts}
use Rattle.call_answers.proofs.Refused.{numbered}
use Rattle.survey_file.specs.declared.Sizes.{Sizes}
use Rattle.survey_file.specs.Sizes.{sizes_in}
use Rattle.listing.specs.Listing.{refused_line}
use Rattle.printing.specs.Texts.{unless_refused, plan_text, printed}
use Rattle.printing.specs.Asked.{SurveyAsked}

-- the lengths of the buffers of a survey that holds nothing yet
pub blank-lengths : {scores weights rows : List ℕ} → (scores ≡ replicate most_sites 0) × (weights ≡ replicate most_streets 0) × (rows ≡ replicate most_rows 0)
    → (length scores ≡ most_sites) × (length weights ≡ most_streets) × (length rows ≡ most_rows)
blank-lengths (s, w, r) = (
  ap length s ∙ length-replicate {A = ℕ} most_sites 0,
  ap length w ∙ length-replicate {A = ℕ} most_streets 0,
  ap length r ∙ length-replicate {A = ℕ} most_rows 0,
)

-- a number that is refused, and not 0, is printed
refused-text : (x y : ℕ) (text : List ℕ) → x ≡ y → (y ≡ 0 → ⊥) → refused_line x ≡ unless_refused y text
refused-text x zero text e h = absurd (h refl)
refused-text x (suc y) text e h = ap (λ (z : ℕ). refused_line z) e

-- where nothing is refused the text is printed
none-refused : (x : ℕ) (text : List ℕ) → x ≡ 0 → text ≡ unless_refused x text
none-refused x text e = rw e

-- the front of a buffer that a list was laid over where nothing is refused
front_read : {now : List ℕ} (new old : List ℕ) (k x : ℕ) → now ≡ after x (laid old 0 new) old → x ≡ 0 → length new ≡ k → take k now ≡ new
unfolding laid
front_read new old k x e z size = rw (e, z) (take_at new _ k size)

-- the survey in the fronts of the buffers is the file's, and its text is what is printed
pub record SurveyRead (file rows scores weights : List ℕ) (n m k kind : ℕ) : Type 0 where
  pub asked : SurveyAsked (town_of n m (take m scores) (take n weights) (take (n * m) rows)) k kind
  pub text : plan_text (town_of n m (take m scores) (take n weights) (take (n * m) rows)) k kind ≡ printed file

module _ {i : ReadInput} {scores weights rows : List ℕ} {r : Result Sizes Refusal} (given : FileRead i scores weights rows r) (long : length i.rows ≡ most_rows)
    (wide : length i.scores ≡ most_sites) (many : length i.weights ≡ most_streets) where
  -- buffers of the right lengths refuse nothing
  file-decides : read_refusal i ≡ file_refusal i.file
  file-decides =
      let refusal : ℕ = file_refusal i.file in
      sym (own-pass refusal (length_refusal (length i.rows) most_rows) _ (as-due 6 (length i.rows) most_rows long)
      (own-pass refusal (length_refusal (length i.scores) most_sites) _ (as-due 6 (length i.scores) most_sites wide)
      (own-pass refusal (length_refusal (length i.weights) most_streets) refusal (as-due 6 (length i.weights) most_streets many) refl)))

  pub refused-printed : {e : Refusal} → r ≡ Err e → refused_line (number_of e) ≡ printed i.file
  unfolding printed
  refused-printed {e} is =
      let number : number_of e ≡ file_refusal i.file = rw is at given.answer.right-number ∙ file-decides in
      refused-text (number_of e) (file_refusal i.file) _ number (λ z. numbered e (number ∙ z))

  module _ {sizes : Sizes} (answer : r ≡ Ok sizes) where
    -- nothing is refused
    quiet : read_refusal i ≡ 0
    quiet = sym (rw answer at given.answer.right-number)

    -- the sizes are the file's
    same : sizes ≡ sizes_in i.file
    same = rw answer at given.answer.right-sizes

    abbrev n : ℕ
    n = sizes.n

    abbrev m : ℕ
    m = sizes.m

    ok : survey_refusal (town_in i.file) (chosen_in i.file) (kind_refusal (kind_in i.file)) ≡ 0
    ok = (given.back (ap accepts answer)).accepted

    good : Accepted (town_in i.file)
    good = accepted (town_in i.file) (chosen_in i.file) _ ok

    rows_are : take (n * m) rows ≡ (town_in i.file).rows
    rows_are =
        let size : length (town_in i.file).rows ≡ n * m = rw same good.rows_fit in
        front_read (town_in i.file).rows i.rows (n * m) _ given.row-bytes quiet size

    scores-are : take m scores ≡ (town_in i.file).scores
    scores-are =
        let size : length (town_in i.file).scores ≡ m = rw same good.scores-fit in
        front_read (town_in i.file).scores i.scores m _ given.score-numbers quiet size

    weights-are : take n weights ≡ (town_in i.file).weights
    weights-are =
        let size : length (town_in i.file).weights ≡ n = rw same good.weights-fit in
        front_read (town_in i.file).weights i.weights n _ given.weight-bytes quiet size

    -- what holds of the file's survey holds of it
    as_read : (P : Town → ℕ → ℕ → Type 0) → P (town_in i.file) (chosen_in i.file) (kind_in i.file)
        → P (town_of n m (take m scores) (take n weights) (take (n * m) rows)) sizes.k sizes.kind
    as_read P h = rw (scores-are, weights-are, rows_are, same) h

    text-is : plan_text (town_in i.file) (chosen_in i.file) (kind_in i.file) ≡ printed i.file
    unfolding printed
    text-is = none-refused (file_refusal i.file) _ (sym file-decides ∙ quiet)

    pub survey-read : SurveyRead i.file rows scores weights n m sizes.k sizes.kind
    survey-read =
        record {
          asked = as_read SurveyAsked (record { sound = ok });
          text = as_read (λ town chosen of-kind. plan_text town chosen of-kind ≡ printed i.file) text-is;
        }
