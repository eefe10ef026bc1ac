-- A file made of another file's pieces.
-- Assumes nothing.
use Rattle.std.specs.Prelude.{ℕ, ◌+◌, ◌*◌, Bool, List, ◌++◌, take, drop}
use Rattle.survey_file.specs.Encode.{town_mark, word, weights_bytes}

-- the mark of a form, the bytes of a file behind its own mark up to the end of its m scores, the weights in that form, and the file from an index on
abbrev pub pieced : Bool → List ℕ → ℕ → List ℕ → ℕ → List ℕ
pieced wanted file m weights streets = word (town_mark wanted) ++ take (7 + 2 * m) (drop 2 file) ++ weights_bytes wanted weights ++ drop streets file
