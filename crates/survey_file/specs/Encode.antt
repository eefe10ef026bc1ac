-- A survey file's bytes, record by record, as document 01 has them under 'Survey file' and document 02 in its request 2026-06.
-- Assumes nothing.
use Rattle.std.specs.Prelude.{ℕ, suc, ◌/◌, ◌%◌, Bool, true, false, List, [], ◌∷◌, ◌++◌, length}
use Rattle.counting.specs.Lists.{at}
use Rattle.counting.specs.Buffers.{joined}
use Rattle.survey.specs.Rows.{row_at, ranked_part}
use Rattle.survey_file.specs.Filed.{Filed}

-- the marks as 16-bit numbers: the letters TN of an old file and TW of a new one, then SC, HW, ST and EN
abbrev pub town_mark : Bool → ℕ
town_mark false = 0x4E54
town_mark true = 0x5754

abbrev pub scores_mark : ℕ
scores_mark = 0x4353

abbrev pub weights_mark : ℕ
weights_mark = 0x5748

abbrev pub street_mark : ℕ
street_mark = 0x5453

abbrev pub end_mark : ℕ
end_mark = 0x4E45

-- a 16-bit number as two bytes, low byte first
abbrev pub word : ℕ → List ℕ
word x = x % 256 ∷ x / 256 ∷ []

-- the record TN, in a new file TW
abbrev pub town_bytes : Bool → ℕ → ℕ → ℕ → ℕ → List ℕ
town_bytes new_form n m k kind = word (town_mark new_form) ++ word n ++ (m ∷ k ∷ kind ∷ [])

-- the record SC
abbrev pub scores_bytes : ℕ → List ℕ → List ℕ
scores_bytes m scores = word scores_mark ++ joined m (λ i. word (at scores i))

-- the record HW of a new file; an old file has none
abbrev pub weights_bytes : Bool → List ℕ → List ℕ
weights_bytes false weights = []
weights_bytes true weights = word weights_mark ++ weights

-- a record ST: the street's number, the length of its list, and the list
abbrev pub list_bytes : ℕ → List ℕ → List ℕ
list_bytes number list = word street_mark ++ word number ++ length list ∷ list

-- the record ST of the street i, counted from 0; its number counts from 1
abbrev pub street_bytes : ℕ → List ℕ → ℕ → List ℕ
street_bytes m rows i = list_bytes (suc i) (ranked_part (row_at m rows i))

-- the records ST of n streets, and EN
abbrev pub streets_bytes : ℕ → ℕ → List ℕ → List ℕ
streets_bytes n m rows = joined n (street_bytes m rows) ++ word end_mark

-- the file of what it is to hold
unfoldable pub encode : Filed → List ℕ
encode f =
    let t = f.town in
    town_bytes f.new_form t.n t.m f.k f.kind ++ scores_bytes t.m t.scores ++ weights_bytes f.new_form t.weights ++ streets_bytes t.n t.m t.rows

-- the bytes of the longest file: 11, 2 for each of 64 scores, 2 and a weight for each of 400 streets, and 5 and a list of 64 sites for each of them
abbrev pub most_file : ℕ
most_file = 28141
