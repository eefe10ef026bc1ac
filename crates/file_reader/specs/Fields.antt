-- Parts of the definitions of a record's refusals, each for a function of its own.
-- Assumes nothing.
use Rattle.std.specs.Prelude.{ℕ, ◌+◌, ◌-◌, ◌*◌, Bool, ◌&&◌, List, ltb, length}
use Rattle.counting.specs.Bounds.{top_score}
use Rattle.counting.specs.Words.{◌when◌, ◌or_else◌, first_nonzero, outside}
use Rattle.survey.specs.Refusals.{sites_refusal, chosen_refusal, kind_refusal}
use Rattle.survey_file.specs.Decode.{word_at, byte_field}

-- 2, 3, 4: what TN tries behind the number of streets
abbrev pub sizes_field : ℕ → ℕ → ℕ → ℕ
sizes_field m k kind = sites_refusal m or_else chosen_refusal k m or_else kind_refusal kind

-- the score at i, out of all bytes from the mark SC on
abbrev pub score_in : List ℕ → ℕ → ℕ
score_in rest i = word_at rest (2 + 2 * i)

-- 8: the score at i is above 1,000 or above the one before
abbrev pub score_field : List ℕ → ℕ → ℕ
score_field rest i =
    8 when ltb top_score (score_in rest i) or_else
    8 when (ltb 0 i && ltb (score_in rest (i - 1)) (score_in rest i))

-- 10, 11: a byte of a list, where the same byte stands before it
abbrev pub site_field : ℕ → Bool → ℕ → ℕ
site_field m again b = 10 when outside b 1 m or_else 11 when again

-- a list, byte by byte
abbrev pub list_field : ℕ → List ℕ → ℕ
list_field m list = first_nonzero (length list) (byte_field m list)
