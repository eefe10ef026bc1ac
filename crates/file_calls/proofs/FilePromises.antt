-- The file calls' promises, from what the tries and the engine gave: what is written is read back, and what is read is written back.
-- Assumes nothing.
use mathlib.Core.Path.{◌≡◌, refl, sym, ap, ◌∙◌}
use mathlib.Core.Bool.{false≢true}
use mathlib.Core.List.{List}
use Prim.Native.Nat.{ℕ, ◌≤◌, ◌<◌}
use native.Mathlib.Omega.{arith}
use lib.Dec.{ltb, lit<}
use lib.ListN.{length, take}
use lib.Seq.{take_at}
use borrow.Author.Tests.{ltb-false, le-ltb, eq-eqb, ne_eqb}
use Rattle.std.specs.Prelude.{Ok, Err}
use Rattle.counting.specs.Bounds.{most_streets, most_sites, most_rows}
use Rattle.counting.specs.Buffers.{laid}
use Rattle.counting.specs.Lists.{at}
use Rattle.counting.proofs.Refusals.{or-zero, when-zero, when-none, exact}
use Rattle.survey.specs.Refusals.{kind_refusal, length_refusal, survey_refusal}
use Rattle.survey.proofs.Sound.{accepted, chosen-within, own-accepted}
use Rattle.survey_file.specs.Filed.{form_refusal}
use Rattle.survey_file.specs.Encode.{most_file, encode}
use Rattle.survey_file.specs.Decode.{file_refusal, filed_in}
use Rattle.survey_file.specs.FileBuffers.{rows_read, scores_read, weights_read, file_written}
use Rattle.survey_file.proofs.Tries.{both}
use Rattle.survey_file.proofs.ReadBack.{decode-encode}
use Rattle.survey_file.proofs.WrittenBack.{encode-decode, decode-accepted, decode-kept}
use Rattle.survey_file.proofs.Lengths.{encode-most}
use Rattle.refusals.specs.Inputs.{WriteInput, ReadInput}
use Rattle.refusals.specs.Refusals.{Tried, room_refusal, write_refusal, read_refusal}
use Rattle.refusals.proofs.Listed.{passed}
use Rattle.call_answers.specs.declared.Refusal.{Refusal}
use Rattle.call_answers.specs.Answers.{number_of}
use Rattle.survey_file.specs.declared.Sizes.{Sizes}
use Rattle.survey_file.specs.Sizes.{sizes_in}
use Rattle.file_calls.specs.Calls.{ReadsBack, WritesBack, FileWritten, FileRead}
use Rattle.call_answers.proofs.Answers.{told-refused, told-total, kept-refused, new-accepted}
use Rattle.call_answers.proofs.Refused.{numbered}

-- ---- a buffer and a file
module _ (buffer file : List ℕ) where
  -- where 7 is not the answer the file fits
  pub room-there : room_refusal buffer file ≡ 0 → length file ≤ length buffer
  room-there e = ltb-false (length buffer) (length file) (when-zero 7 (ltb (length buffer) (length file)) (lit< tt) e)

  -- and the other way round
  pub room-enough : length file ≤ length buffer → room_refusal buffer file ≡ 0
  room-enough l = sym (when-none 7 (ltb (length buffer) (length file)) (le-ltb (length buffer) (length file) l))

  -- what is laid over the front of the buffer is the file
  pub front : take (length file) (laid buffer 0 file) ≡ file
  unfolding laid
  front = take_at file _ (length file) refl

-- ---- writing
pub write-refused : {i : WriteInput} (e : Refusal) → Tried write_refusal i (number_of e) → FileWritten i i.file (Err e)
write-refused e tried = record { answer = told-refused e tried; bytes = kept-refused e tried _ _; back = λ y. absurd (false≢true y) }

module _ {i : WriteInput} (tried : Tried write_refusal i 0) where
  -- the file
  abbrev file : List ℕ
  file = encode i.filed

  -- neither the survey, nor a weight, nor the room is refused
  parts : (survey_refusal i.filed.town i.filed.k (kind_refusal i.filed.kind) ≡ 0)
      × (form_refusal i.filed.new_form i.filed.town.weights ≡ 0) × (room_refusal i.file file ≡ 0)
  parts =
      let (survey, rest) = or-zero (survey_refusal i.filed.town i.filed.k (kind_refusal i.filed.kind)) _ (passed tried) in
      let (kept, room) = or-zero (form_refusal i.filed.new_form i.filed.town.weights) _ rest in
      (survey, kept, room)

  -- what the engine asks for: k and the kind, and that the file fits its buffer
  pub write-ready : (i.filed.k ≤ i.filed.town.m) × (i.filed.kind ≤ 1)
  write-ready = (
    (chosen-within i.filed.town i.filed.k _ parts.0).1,
    ltb-false 1 i.filed.kind (when-zero 4 (ltb 1 i.filed.kind) (lit< tt) (own-accepted i.filed.town i.filed.k _ parts.0)),
  )

  pub write-room : length file ≤ length i.file
  write-room = room-there i.file file parts.2

  -- the file is not long
  pub write-short : length file ≤ most_file
  write-short = encode-most i.filed (accepted i.filed.town i.filed.k _ parts.0)

  -- what was written is read back
  back : ReadsBack i.filed (file_written i.filed i.file) (length file)
  back = record { short = write-short; read_back = rw (front i.file file) (decode-encode i.filed parts.0 parts.1) }

  pub write-given : {now : List ℕ} {r : ℕ} → r ≡ length (encode i.filed) → now ≡ file_written i.filed i.file → FileWritten i now (Ok r)
  write-given size bytes = record { answer = told-total tried size; bytes = new-accepted tried _ _ bytes; back = λ y. rw (bytes, size) back }

-- ---- reading
pub file-refused : {i : ReadInput} (e : Refusal) → Tried read_refusal i (number_of e) → FileRead i i.scores i.weights i.rows (Err e)
file-refused {i} e tried =
    record {
      answer = record { right-number = tried.first; right-case = sym (ne_eqb (read_refusal i) 0 (λ z. numbered e (tried.first ∙ z))); right-sizes = tt };
      score-numbers = kept-refused e tried _ _;
      weight-bytes = kept-refused e tried _ _;
      row-bytes = kept-refused e tried _ _;
      back = λ y. absurd (false≢true y);
    }

module _ {i : ReadInput} (tried : Tried read_refusal i 0) where
  -- a call that is not refused has buffers of the right lengths and a file that is not refused
  lengths : (file_refusal i.file ≡ 0) × (length i.rows ≡ most_rows) × (length i.scores ≡ most_sites) × (length i.weights ≡ most_streets)
  lengths =
      let (first, rest) = or-zero (length_refusal (length i.rows) most_rows) _ (passed tried) in
      let (second, more) = or-zero (length_refusal (length i.scores) most_sites) _ rest in
      let (third, last) = or-zero (length_refusal (length i.weights) most_streets) (file_refusal i.file) more in (
        last,
        exact 6 (length i.rows) most_rows (lit< tt) first,
        exact 6 (length i.scores) most_sites (lit< tt) second,
        exact 6 (length i.weights) most_streets (lit< tt) third,
      )

  -- what filling asks for
  pub fill-ready : (length i.rows ≡ most_rows) × (length i.scores ≡ most_sites) × (length i.weights ≡ most_streets)
  fill-ready = (lengths.1, lengths.2, lengths.3)

  module _ (bytes : (j : ℕ) → at i.file j < 256) where
    -- a file that is not refused is written from what is read of it
    writes : WritesBack i.file
    writes =
        let same : encode (filed_in i.file) ≡ i.file = encode-decode i.file lengths.0 bytes in
        record {
          accepted = decode-accepted i.file lengths.0;
          taken = λ buffer room. both _ _ (decode-accepted i.file lengths.0)
              (both _ _ (decode-kept i.file lengths.0) (room-enough buffer (encode (filed_in i.file)) (omega (arith, ap length same))));
          written_back = same;
        }

    pub file-given : {sizes : Sizes} {rows scores weights : List ℕ} → sizes ≡ sizes_in i.file → rows ≡ rows_read i.file i.rows
        → scores ≡ scores_read i.file i.scores → weights ≡ weights_read i.file i.weights → FileRead i scores weights rows (Ok sizes)
    file-given same rows scores weights =
        let passed : read_refusal i ≡ 0 = sym tried.first in
        record {
          answer = record { right-number = tried.first; right-case = sym (eq-eqb (read_refusal i) 0 passed); right-sizes = same };
          score-numbers = new-accepted tried _ _ scores;
          weight-bytes = new-accepted tried _ _ weights;
          row-bytes = new-accepted tried _ _ rows;
          back = λ _. writes;
        }
