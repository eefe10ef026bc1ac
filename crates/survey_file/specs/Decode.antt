-- Reading a survey file, in document 01's order of tries. A record is defined over all bytes from its mark on, so its fields stand at
-- fixed indices: the mark at 0, the first field at 2.
-- Assumes nothing.
use Rattle.std.specs.Prelude.{ℕ, zero, suc, ◌+◌, ◌-◌, ◌*◌, ◌≡◌, Bool, true, false, List, ◌++◌, ltb, eqb, length, take, drop, replicate}
use Rattle.counting.specs.Words.{◌when◌, ◌unless◌, ◌or_else◌, first_nonzero, outside}
use Rattle.counting.specs.Lists.{at, has}
use Rattle.counting.specs.Buffers.{joined, list_of}
use Rattle.survey.specs.Town.{Town, town_of}
use Rattle.survey.specs.Refusals.{streets_refusal, sites_refusal, chosen_refusal, kind_refusal, scores_refusal, weights_refusal}
use Rattle.survey_file.specs.Filed.{Filed, filed_of}
use Rattle.survey_file.specs.Encode.{town_mark, scores_mark, weights_mark, street_mark, end_mark}

-- the 16-bit number at an index, low byte first
abbrev pub word_at : List ℕ → ℕ → ℕ
word_at bytes i = at bytes i + 256 * at bytes (i + 1)

-- 12: the bytes end before so many
abbrev pub short_refusal : List ℕ → ℕ → ℕ
short_refusal rest size = 12 when ltb (length rest) size

-- 12, 13: the mark
abbrev pub mark_refusal : ℕ → List ℕ → ℕ
mark_refusal due rest = short_refusal rest 2 or_else 13 unless eqb (word_at rest 0) due

-- TN or TW: n, m, K and kind
abbrev pub town_fields : List ℕ → ℕ
town_fields rest =
    short_refusal rest 7 or_else
    streets_refusal (word_at rest 2) or_else
    sites_refusal (at rest 4) or_else
    chosen_refusal (at rest 5) (at rest 4) or_else
    kind_refusal (at rest 6)

-- the m scores of SC
abbrev pub scores_in : ℕ → List ℕ → List ℕ
scores_in m rest = list_of m (λ i. word_at rest (2 + 2 * i))

-- SC: the scores
abbrev pub scores_fields : ℕ → List ℕ → ℕ
scores_fields m rest = short_refusal rest (2 + 2 * m) or_else scores_refusal (scores_in m rest)

-- the n weights of HW; an old file has none, and all its weights are 1
abbrev pub weights_in : Bool → ℕ → List ℕ → List ℕ
weights_in false n rest = replicate n 1
weights_in true n rest = take n (drop 2 rest)

-- HW: the weights
abbrev pub weights_fields : ℕ → List ℕ → ℕ
weights_fields n rest = short_refusal rest (2 + n) or_else weights_refusal (weights_in true n rest)

-- the record HW, which only a new file has, and its bytes
abbrev pub weights_record : Bool → ℕ → List ℕ → ℕ
weights_record false n rest = 0
weights_record true n rest = mark_refusal weights_mark rest or_else weights_fields n rest

abbrev pub weights_size : Bool → ℕ → ℕ
weights_size false n = 0
weights_size true n = 2 + n

-- the list of ST
abbrev pub list_in : List ℕ → List ℕ
list_in rest = take (at rest 4) (drop 5 rest)

-- 10, 11: a byte of a list, after the bytes before it; 0 is no site in a file
abbrev pub byte_field : ℕ → List ℕ → ℕ → ℕ
byte_field m list j = 10 when outside (at list j) 1 m or_else 11 when has (at list j) (take j list)

-- ST: the street's number, the length, and the list
abbrev pub street_fields : ℕ → ℕ → List ℕ → ℕ
street_fields m number rest =
    short_refusal rest 5 or_else
    14 unless eqb (word_at rest 2) number or_else
    15 when ltb m (at rest 4) or_else
    short_refusal rest (5 + at rest 4) or_else
    first_nonzero (length (list_in rest)) (byte_field m (list_in rest))

-- EN: nothing follows
abbrev pub end_fields : List ℕ → ℕ
end_fields rest = 16 when ltb 2 (length rest)

-- what is left of the street records once i of them are read
unfoldable pub past : List ℕ → ℕ → List ℕ
past streets zero = streets
past streets (suc i) = drop (5 + at (past streets i) 4) (past streets i)

-- the record of the street i, counted from 0
abbrev pub street_record : ℕ → List ℕ → ℕ → ℕ
street_record m streets i =
    mark_refusal street_mark (past streets i) or_else
    street_fields m (suc i) (past streets i)

-- the street records, and the end behind them
abbrev pub streets_and_end : ℕ → ℕ → List ℕ → ℕ
streets_and_end n m streets =
    first_nonzero n (street_record m streets) or_else
    mark_refusal end_mark (past streets n) or_else
    end_fields (past streets n)

-- the form of a file, which its first mark decides
abbrev pub form_in : List ℕ → Bool
form_in file = eqb (word_at file 0) (town_mark true)

-- the fields of its first record, and where SC, HW and the street records begin
abbrev pub streets_in : List ℕ → ℕ
streets_in file = word_at file 2

abbrev pub sites_in : List ℕ → ℕ
sites_in file = at file 4

abbrev pub chosen_in : List ℕ → ℕ
chosen_in file = at file 5

abbrev pub kind_in : List ℕ → ℕ
kind_in file = at file 6

abbrev pub scores_part : List ℕ → List ℕ
scores_part file = drop 7 file

abbrev pub weights_part : List ℕ → List ℕ
weights_part file = drop (9 + 2 * sites_in file) file

abbrev pub streets_part : List ℕ → List ℕ
streets_part file = drop (9 + 2 * sites_in file + weights_size (form_in file) (streets_in file)) file

-- the first refusal of a file, record by record
unfoldable pub file_refusal : List ℕ → ℕ
file_refusal file =
    (mark_refusal (town_mark (form_in file)) file or_else town_fields file) or_else
    (mark_refusal scores_mark (scores_part file) or_else scores_fields (sites_in file) (scores_part file)) or_else
    weights_record (form_in file) (streets_in file) (weights_part file) or_else
    streets_and_end (streets_in file) (sites_in file) (streets_part file)

-- the row that a street's record gives: its list, then zeros
abbrev pub row_from : ℕ → List ℕ → List ℕ
row_from m rest = list_in rest ++ replicate (m - length (list_in rest)) 0

-- the rows of a file
abbrev pub rows_in : List ℕ → List ℕ
rows_in file = joined (streets_in file) (λ i. row_from (sites_in file) (past (streets_part file) i))

-- the town that a file holds
abbrev pub town_in : List ℕ → Town
town_in file =
    town_of (streets_in file) (sites_in file) (scores_in (sites_in file) (scores_part file)) (weights_in (form_in file) (streets_in file) (weights_part file)) (rows_in file)

-- and all that it holds
abbrev pub filed_in : List ℕ → Filed
filed_in file = filed_of (form_in file) (town_in file) (chosen_in file) (kind_in file)

-- what reading gives: what the file holds, or a refusal's number
pub data Decoded : Type 0 where
  Given : Filed → Decoded
  Refused : ℕ → Decoded

abbrev pub given_unless : ℕ → Decoded → Decoded
given_unless zero given = given
given_unless (suc x) given = Refused (suc x)

unfoldable pub decode : List ℕ → Decoded
unfolding file_refusal
decode file = given_unless (file_refusal file) (Given (filed_in file))

-- a file of which nothing is refused, with its numbers of streets and of sites and its form
pub record FileTaken (file : List ℕ) (n m : ℕ) (new_form : Bool) : Type 0 where
  pub ok : file_refusal file ≡ 0
  pub streets : n ≡ streets_in file
  pub sites : m ≡ sites_in file
  pub form : new_form ≡ form_in file
