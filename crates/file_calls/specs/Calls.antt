-- What the writer, the reader and the converter of survey files promise, each in one record, on every input. A buffer holds `after REFUSAL NEW OLD`: the
-- new bytes where the call is accepted, else what it held.
-- Assumes nothing.
use Rattle.std.specs.Prelude.{◌≡◌, true, List, ℕ, ◌≤◌, Result, length, take}
use Rattle.counting.specs.Buffers.{after}
use Rattle.survey.specs.Refusals.{kind_refusal, survey_refusal}
use Rattle.survey_file.specs.Filed.{Filed, in_form}
use Rattle.survey_file.specs.Encode.{most_file, encode}
use Rattle.survey_file.specs.Decode.{decode, Given, form_in, chosen_in, kind_in, town_in, filed_in}
use Rattle.survey_file.specs.FileBuffers.{rows_read, scores_read, weights_read, file_written, converted, file_converted}
use Rattle.refusals.specs.Inputs.{WriteInput, ReadInput, ConvertInput, write_of, convert_of}
use Rattle.refusals.specs.Refusals.{write_refusal, read_refusal, convert_refusal}
use Rattle.call_answers.specs.declared.Refusal.{Refusal}
use Rattle.call_answers.specs.Answers.{Told, accepts, total}
use Rattle.survey_file.specs.declared.Sizes.{Sizes}
use Rattle.file_calls.specs.Answers.{ReadTold}

-- a file that was made: the first bytes of the buffer are a file that reading gives back as all that it was to hold, its form and weights among it
pub record ReadsBack (f : Filed) (file : List ℕ) (size : ℕ) : Type 0 where
  pub short : size ≤ most_file
  pub read_back : decode (take size file) ≡ Given f

-- a file that was read: what was filled in is an accepted survey of its kind; the writer takes it, in the form that was read, for any buffer with room
-- for it, and gives back this very file
pub record WritesBack (file : List ℕ) : Type 0 where
  pub accepted : survey_refusal (town_in file) (chosen_in file) (kind_refusal (kind_in file)) ≡ 0
  pub taken : (buffer : List ℕ) → length file ≤ length buffer → write_refusal (write_of (filed_in file) buffer) ≡ 0
  pub written_back : encode (filed_in file) ≡ file

-- a file that was converted: the converter takes the outcome back to the form that the file had, for any buffer with room for it, and gives back this
-- very file
pub record ConvertsBack (file back : List ℕ) : Type 0 where
  pub taken : (buffer : List ℕ) → length file ≤ length buffer → convert_refusal (convert_of back (form_in file) buffer) ≡ 0
  pub converted-back : converted (form_in file) back ≡ file

-- survey file writer; `file` is what the buffer holds afterwards
pub record FileWritten (i : WriteInput) (file : List ℕ) (r : Result ℕ Refusal) : Type 0 where
  -- the first number that applies, or the file's length
  pub answer : Told r (write_refusal i) (length (encode i.filed))
  -- the file, and no byte past it changed
  pub bytes : file ≡ after (write_refusal i) (file_written i.filed i.file) i.file
  -- reading the file gives back what was written
  pub back : accepts r ≡ true → ReadsBack i.filed file (total r)

-- survey file reader; `scores`, `weights` and `rows` are what the three buffers hold afterwards
pub record FileRead (i : ReadInput) (scores weights rows : List ℕ) (r : Result Sizes Refusal) : Type 0 where
  -- the first number that applies, or the sizes, the kind and the form
  pub answer : ReadTold r (read_refusal i) i.file
  -- the first m numbers are the scores, and later ones stay
  pub score-numbers : scores ≡ after (read_refusal i) (scores_read i.file i.scores) i.scores
  -- the first n bytes are the weights, and later ones stay
  pub weight-bytes : weights ≡ after (read_refusal i) (weights_read i.file i.weights) i.weights
  -- the first n times m bytes are the rows, and later ones stay
  pub row-bytes : rows ≡ after (read_refusal i) (rows_read i.file i.rows) i.rows
  -- what was read is an accepted survey, and writing it in its form gives back the file
  pub back : accepts r ≡ true → WritesBack i.file

-- survey file converter; `buffer` is what the buffer holds afterwards
pub record FileConverted (i : ConvertInput) (buffer : List ℕ) (r : Result ℕ Refusal) : Type 0 where
  -- the first number that applies, or the length of the file in the form that is wanted
  pub answer : Told r (convert_refusal i) (length (converted i.wanted i.file))
  -- that file, and no byte past it changed
  pub bytes : buffer ≡ after (convert_refusal i) (file_converted i.wanted i.file i.buffer) i.buffer
  -- it holds the same survey with the same weights
  pub same : accepts r ≡ true → ReadsBack (in_form i.wanted (filed_in i.file)) buffer (total r)
  -- a file that has the form already comes out as it is
  pub own : accepts r ≡ true → i.wanted ≡ form_in i.file → take (total r) buffer ≡ i.file
  -- there and back gives the bytes one began with
  pub back : accepts r ≡ true → ConvertsBack i.file (take (total r) buffer)
