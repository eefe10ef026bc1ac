-- The listing of a plan, byte by byte in ASCII: lines of a word and of numbers in decimal.
-- Assumes nothing.
use Rattle.std.specs.Prelude.{ℕ, zero, suc, ◌+◌, ◌/◌, ◌%◌, cond, List, [], ◌∷◌, ◌++◌, ltb, length}
use Rattle.counting.specs.Lists.{at}
use Rattle.counting.specs.Buffers.{joined}
use Rattle.survey.specs.Rows.{row_at, place_of}

-- a digit
abbrev pub digit : ℕ → ℕ
digit x = 48 + x

-- a number of at most d digits, without leading zeros
unfoldable pub digits : ℕ → ℕ → List ℕ
digits zero x = []
digits (suc d) x = let more : List ℕ = digits d (x / 10) ++ (digit (x % 10) ∷ []) in cond (ltb x 10) (digit x ∷ []) more

-- a number in decimal: it has at most x + 1 digits
abbrev pub decimal : ℕ → List ℕ
decimal x = digits (suc x) x

-- a number behind a space
abbrev pub spaced : ℕ → List ℕ
spaced x = 32 ∷ decimal x

-- numbers one behind the other
abbrev pub numbers_text : List ℕ → List ℕ
numbers_text numbers = joined (length numbers) (λ i. spaced (at numbers i))

-- a line: a word, the numbers behind it, and the line's end
abbrev pub line : List ℕ → List ℕ → List ℕ
line word numbers = word ++ numbers_text numbers ++ (10 ∷ [])

-- the words that begin a line: total, sites, street, refused
abbrev pub total_word : List ℕ
total_word = 116 ∷ 111 ∷ 116 ∷ 97 ∷ 108 ∷ []

abbrev pub sites_word : List ℕ
sites_word = 115 ∷ 105 ∷ 116 ∷ 101 ∷ 115 ∷ []

abbrev pub street_word : List ℕ
street_word = 115 ∷ 116 ∷ 114 ∷ 101 ∷ 101 ∷ 116 ∷ []

abbrev pub refused_word : List ℕ
refused_word = 114 ∷ 101 ∷ 102 ∷ 117 ∷ 115 ∷ 101 ∷ 100 ∷ []

-- the line of the street s, counted from 0: its number, counted from 1, its site, and the place that it gives the site, 0 where it is not ranked
abbrev pub street_line : ℕ → List ℕ → List ℕ → ℕ → List ℕ
street_line m rows division s = line street_word (suc s ∷ at division s ∷ place_of (row_at m rows s) (at division s) ∷ [])

-- the lines of all streets
abbrev pub street_lines : ℕ → List ℕ → List ℕ → List ℕ
street_lines m rows division = joined (length division) (street_line m rows division)

-- the listing of a plan: its total, its sites in order of choice, and its streets
abbrev pub listing : ℕ → List ℕ → ℕ → List ℕ → List ℕ → List ℕ
listing m rows total sites division = line total_word (total ∷ []) ++ line sites_word sites ++ street_lines m rows division

-- the line of a refusal
abbrev pub refused_line : ℕ → List ℕ
refused_line x = line refused_word (x ∷ [])

-- the bytes of a buffer that holds every listing and every line of a refusal
abbrev pub most_text : ℕ
most_text = 8192
