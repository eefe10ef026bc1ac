-- What the buffers hold that reading, writing and converting a file are lent.
-- Assumes nothing.
use Rattle.std.specs.Prelude.{ℕ, Bool, List}
use Rattle.counting.specs.Buffers.{laid}
use Rattle.survey_file.specs.Filed.{Filed, in_form}
use Rattle.survey_file.specs.Encode.{encode}
use Rattle.survey_file.specs.Decode.{town_in, filed_in}

-- the reader's buffers: the first n times m row bytes, the first m scores and the first n weights are filled
abbrev pub rows_read : List ℕ → List ℕ → List ℕ
rows_read file rows = laid rows 0 (town_in file).rows

abbrev pub scores_read : List ℕ → List ℕ → List ℕ
scores_read file scores = laid scores 0 (town_in file).scores

abbrev pub weights_read : List ℕ → List ℕ → List ℕ
weights_read file weights = laid weights 0 (town_in file).weights

-- the writer's buffer: the file, and no byte past it changed
abbrev pub file_written : Filed → List ℕ → List ℕ
file_written f file = laid file 0 (encode f)

-- a file in the form that is wanted: the file of all that it holds
abbrev pub converted : Bool → List ℕ → List ℕ
converted wanted file = encode (in_form wanted (filed_in file))

-- the converter's buffer: that file, and no byte past it changed
abbrev pub file_converted : Bool → List ℕ → List ℕ → List ℕ
file_converted wanted file buffer = laid buffer 0 (converted wanted file)
