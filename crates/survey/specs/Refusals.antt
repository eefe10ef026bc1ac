-- What is turned down in a survey, by the numbers of documents 01 and 02. Each definition gives the first number that applies, and 0 where none does.
-- Assumes nothing.
use Rattle.std.specs.Prelude.{ℕ, ◌*◌, ◌-◌, Bool, ◌&&◌, List, ltb, eqb, length, take}
use Rattle.counting.specs.Bounds.{most_streets, most_sites, top_score, top_weight}
use Rattle.counting.specs.Words.{◌when◌, ◌unless◌, ◌or_else◌, first_nonzero, outside}
use Rattle.counting.specs.Lists.{at, has}
use Rattle.survey.specs.Town.{Town}
use Rattle.survey.specs.Rows.{row_at}

-- 1: the number of streets
abbrev pub streets_refusal : ℕ → ℕ
streets_refusal n = 1 when outside n 1 most_streets

-- 2: the number of sites
abbrev pub sites_refusal : ℕ → ℕ
sites_refusal m = 2 when outside m 1 most_sites

-- 3: the number of chosen sites, or the length of a given list of sites
abbrev pub chosen_refusal : ℕ → ℕ → ℕ
chosen_refusal k m = 3 when outside k 1 m

-- 4: the kind of plan, 0 free and 1 balanced
abbrev pub kind_refusal : ℕ → ℕ
kind_refusal kind = 4 when ltb 1 kind

-- 5: the number of chosen sites, or the length of a given list of sites, is above the number of streets
abbrev pub share_refusal : ℕ → ℕ → ℕ
share_refusal n k = 5 when ltb n k

-- 6: a lent buffer of other than its exact length
abbrev pub length_refusal : ℕ → ℕ → ℕ
length_refusal given due = 6 unless eqb given due

-- 8: the score at i is above 1,000 or above the one before
abbrev pub score_refusal : List ℕ → ℕ → ℕ
score_refusal scores i =
    8 when ltb top_score (at scores i) or_else
    8 when (ltb 0 i && ltb (at scores (i - 1)) (at scores i))

-- the scores, in their order
abbrev pub scores_refusal : List ℕ → ℕ
scores_refusal scores = first_nonzero (length scores) (score_refusal scores)

-- 24: a weight outside 1 to 99
abbrev pub weight_refusal : ℕ → ℕ
weight_refusal weight = 24 when outside weight 1 top_weight

-- the weights, by street
abbrev pub weights_refusal : List ℕ → ℕ
weights_refusal weights = first_nonzero (length weights) (λ i. weight_refusal (at weights i))

-- 9, 10, 11: a byte of a row, where a zero and where the same byte stands before it
abbrev pub site_refusal : ℕ → Bool → Bool → ℕ → ℕ
site_refusal m ended again b =
    (9 when ended or_else
    10 when ltb m b or_else
    11 when again) unless eqb b 0

-- the byte at the index j of a row
abbrev pub byte_refusal : ℕ → List ℕ → ℕ → ℕ
byte_refusal m row j = site_refusal m (has 0 (take j row)) (has (at row j) (take j row)) (at row j)

-- a row, byte by byte
abbrev pub row_refusal : ℕ → List ℕ → ℕ
row_refusal m row = first_nonzero (length row) (byte_refusal m row)

-- the row at the index i
abbrev pub street_refusal : ℕ → List ℕ → ℕ → ℕ
street_refusal m rows i = row_refusal m (row_at m rows i)

-- the rows, by street and byte
abbrev pub rows_refusal : ℕ → ℕ → List ℕ → ℕ
rows_refusal n m rows = first_nonzero n (street_refusal m rows)

-- what the survey holds: the scores, the weights, then the rows
abbrev pub held_refusal : Town → ℕ
held_refusal t = scores_refusal t.scores or_else weights_refusal t.weights or_else rows_refusal t.n t.m t.rows

-- a survey with k sites to be chosen, in the papers' order; `own` is what a call tries besides between 3 and 8: 4, 5, and 6 for its other buffers
abbrev pub survey_refusal : Town → ℕ → ℕ → ℕ
survey_refusal t k own =
    streets_refusal t.n or_else
    sites_refusal t.m or_else
    chosen_refusal k t.m or_else
    own or_else
    length_refusal (length t.scores) t.m or_else
    length_refusal (length t.weights) t.n or_else
    length_refusal (length t.rows) (t.n * t.m) or_else
    held_refusal t
