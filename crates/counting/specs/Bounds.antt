-- The bounds of document 01, and those of the engines' tables and numbers that follow from them; the code's are in src/lib.rt.
-- Assumes nothing.
use Rattle.std.specs.Prelude.{ℕ}

-- the most streets and sites of a survey, the greatest score, and the greatest household weight
abbrev pub most_streets : ℕ
most_streets = 400

abbrev pub most_sites : ℕ
most_sites = 64

abbrev pub top_score : ℕ
top_score = 1000

abbrev pub top_weight : ℕ
top_weight = 99

-- the longest rows: most_streets times most_sites bytes
abbrev pub most_rows : ℕ
most_rows = 25600

-- the sites 0, 1, .., m of a table, and the longest table with an entry for each street and each of them
abbrev pub most_width : ℕ
most_width = 65

abbrev pub most_entries : ℕ
most_entries = 26000

-- the greatest value of a site for a street that the engines allow for: a score of at most 1,000 times a weight of at most 99
abbrev pub most_value : ℕ
most_value = 99000

-- the greatest sum of such values over the streets, and of scores alone
abbrev pub most_worth : ℕ
most_worth = 39600000

abbrev pub most_total : ℕ
most_total = 400000

-- the greatest price of a site in the division's passes
abbrev pub most_price : ℕ
most_price = 1000000000
