-- The converter's promise, from what the tries and the engine gave: the outcome holds the same, its own form is the file, and there and back gives the
-- file.
-- Assumes nothing.
use mathlib.Core.Path.{◌≡◌, ap, ◌∙◌}
use mathlib.Core.Bool.{false≢true}
use mathlib.Core.List.{List}
use Prim.Native.Nat.{ℕ, ◌≤◌, ◌<◌}
use native.Mathlib.Omega.{arith}
use lib.ListN.{length, take}
use Rattle.counting.specs.Lists.{at}
use Rattle.counting.proofs.Refusals.{or-zero}
use Rattle.survey_file.specs.Filed.{in_form, form_refusal}
use Rattle.survey_file.specs.Encode.{most_file}
use Rattle.survey_file.specs.Decode.{file_refusal, form_in, town_in, filed_in}
use Rattle.survey_file.specs.FileBuffers.{converted, file_converted}
use Rattle.survey_file.proofs.Tries.{both}
use Rattle.survey_file.proofs.WrittenBack.{town-accepted}
use Rattle.survey_file.proofs.Converted.{converted-accepted, converted-read, back-kept, converted-back, converted-own}
use Rattle.survey_file.proofs.Lengths.{encode-most}
use Rattle.refusals.specs.Inputs.{ConvertInput}
use Rattle.refusals.specs.Refusals.{Tried, room_refusal, convert_refusal}
use Rattle.refusals.proofs.Listed.{passed}
use Rattle.call_answers.specs.declared.Refusal.{Refusal}
use Rattle.call_answers.specs.Answers.{number_of}
use Rattle.std.specs.Prelude.{Ok, Err}
use Rattle.call_answers.proofs.Answers.{told-refused, told-total, kept-refused, new-accepted}
use Rattle.file_calls.specs.Calls.{ReadsBack, ConvertsBack, FileConverted}
use Rattle.file_calls.proofs.FilePromises.{room-there, room-enough, front}

pub convert-refused : {i : ConvertInput} (e : Refusal) → Tried convert_refusal i (number_of e) → FileConverted i i.buffer (Err e)
convert-refused e tried =
    record {
      answer = told-refused e tried;
      bytes = kept-refused e tried _ _;
      same = λ y. absurd (false≢true y);
      own = λ y. absurd (false≢true y);
      back = λ y. absurd (false≢true y);
    }

module _ {i : ConvertInput} (tried : Tried convert_refusal i 0) where
  -- the file in the form that is wanted
  abbrev file : List ℕ
  file = converted i.wanted i.file

  -- neither the file, nor a weight, nor the room is refused
  parts : (file_refusal i.file ≡ 0) × (form_refusal i.wanted (town_in i.file).weights ≡ 0) × (room_refusal i.buffer file ≡ 0)
  parts =
      let (quiet, rest) = or-zero (file_refusal i.file) _ (passed tried) in
      let (kept, room) = or-zero (form_refusal i.wanted (town_in i.file).weights) _ rest in
      (quiet, kept, room)

  -- what the engine asks for
  pub convert-room : length (converted i.wanted i.file) ≤ length i.buffer
  convert-room = room-there i.buffer file parts.2

  -- the outcome is not long
  pub convert-short : length (converted i.wanted i.file) ≤ most_file
  convert-short = encode-most (in_form i.wanted (filed_in i.file)) (town-accepted i.file parts.0)

  -- what the front of the buffer holds
  abbrev held : List ℕ
  held = take (length file) (file_converted i.wanted i.file i.buffer)

  is-file : held ≡ file
  is-file = front i.buffer file

  -- it is read as the same
  same : ReadsBack (in_form i.wanted (filed_in i.file)) (file_converted i.wanted i.file i.buffer) (length file)
  same = record { short = convert-short; read_back = rw is-file (converted-read i.wanted i.file parts.0 parts.1) }

  module _ (bytes : (j : ℕ) → at i.file j < 256) where
    -- it is converted back to the file
    back : ConvertsBack i.file file
    back =
        let again : converted (form_in i.file) file ≡ i.file = converted-back i.wanted i.file parts.0 parts.1 bytes in
        record {
          taken = λ buffer room. both _ _ (converted-accepted i.wanted i.file parts.0 parts.1)
              (both _ _ (back-kept i.wanted i.file parts.0 parts.1)
              (room-enough buffer (converted (form_in i.file) file) (omega (arith, ap length again))));
          converted-back = again;
        }

    pub convert-given : {now : List ℕ} {r : ℕ} → r ≡ length (converted i.wanted i.file) → now ≡ file_converted i.wanted i.file i.buffer
        → FileConverted i now (Ok r)
    convert-given size new =
        record {
          answer = told-total tried size;
          bytes = new-accepted tried _ _ new;
          same = λ y. rw (new, size) same;
          own = λ y e. rw (new, size) (is-file ∙ converted-own i.wanted i.file parts.0 bytes e);
          back = λ y. rw (new, size, is-file) back;
        }
