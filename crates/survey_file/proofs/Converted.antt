-- A file in the form that is wanted, where that form keeps its weights: it is accepted, holds the same, is the file itself where the form is its own, and
-- there and back gives the file.
-- Assumes nothing.
use mathlib.Core.Path.{◌≡◌, ap, ◌∙◌}
use mathlib.Core.Bool.{Bool}
use mathlib.Core.List.{List}
use Prim.Native.Nat.{ℕ}
use Rattle.survey_file.specs.Filed.{Filed, in_form, form_refusal}
use Rattle.survey_file.specs.Encode.{encode}
use Rattle.survey_file.specs.Decode.{form_in, town_in, filed_in, file_refusal, Given, decode}
use Rattle.survey_file.specs.FileBuffers.{converted}
use Rattle.survey_file.proofs.Bytes.{Bytes}
use Rattle.survey_file.proofs.ReadBack.{encode-accepted, filed-encode, decode-encode}
use Rattle.survey_file.proofs.WrittenBack.{encode-decode, decode-accepted, decode-kept}

module _ (wanted : Bool) (file : List ℕ) (e : file_refusal file ≡ 0) (kept : form_refusal wanted (town_in file).weights ≡ 0) where
  -- it is accepted
  pub converted-accepted : file_refusal (converted wanted file) ≡ 0
  converted-accepted = encode-accepted (in_form wanted (filed_in file)) (decode-accepted file e)

  -- it holds the same, in the form that is wanted
  pub converted-held : filed_in (converted wanted file) ≡ in_form wanted (filed_in file)
  converted-held = filed-encode (in_form wanted (filed_in file)) (decode-accepted file e) kept

  -- which is what is read from it
  pub converted-read : decode (converted wanted file) ≡ Given (in_form wanted (filed_in file))
  converted-read = decode-encode (in_form wanted (filed_in file)) (decode-accepted file e) kept

  -- the form that the file had keeps the weights again
  pub back-kept : form_refusal (form_in file) (town_in (converted wanted file)).weights ≡ 0
  back-kept = ap (λ (f : Filed). form_refusal (form_in file) f.town.weights) converted-held ∙ decode-kept file e

  -- and gives back the file
  pub converted-back : Bytes file → converted (form_in file) (converted wanted file) ≡ file
  converted-back bytes = ap (λ (f : Filed). encode (in_form (form_in file) f)) converted-held ∙ encode-decode file e bytes

-- a file in the form that it has is the file
pub converted-own : (wanted : Bool) (file : List ℕ) → file_refusal file ≡ 0 → Bytes file → wanted ≡ form_in file → converted wanted file ≡ file
converted-own wanted file e bytes own = ap (λ (new_form : Bool). encode (in_form new_form (filed_in file))) own ∙ encode-decode file e bytes
