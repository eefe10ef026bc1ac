-- The survey, as document 01 has it under 'The survey': rows, places, scores and weights, and the value of a site for a street.
-- Assumes nothing.
use Rattle.std.specs.Prelude.{ℕ, zero, suc, ◌+◌, ◌-◌, ◌*◌, ◌≤◌, ◌<◌, min, ◌≡◌, cond, List, [], ◌∷◌, eqb, length, take, drop}
use Rattle.counting.specs.Bounds.{top_weight}
use Rattle.counting.specs.Words.{◌when◌, ◌unless◌, first_nonzero}
use Rattle.counting.specs.Lists.{at}
use Rattle.survey.specs.Town.{Town}

-- the row at the index i of a buffer of rows of m bytes
abbrev pub row_at : ℕ → List ℕ → ℕ → List ℕ
row_at m rows i = take m (drop (i * m) rows)

-- the ranked part of a row: all that stands before the first zero
abbrev pub ranked_part : List ℕ → List ℕ
ranked_part [] = []
ranked_part (b ∷ rest) = let more : List ℕ = b ∷ ranked_part rest in cond (eqb b 0) [] more

-- j + 1 where the site stands at the index j, else 0
abbrev pub place_at : List ℕ → ℕ → ℕ → ℕ
place_at list site j = (j + 1) when eqb (at list j) site

-- the place of a site in a list, 1 the best; 0 where the list has no such site
abbrev pub place_in : List ℕ → ℕ → ℕ
place_in list site = first_nonzero (length list) (place_at list site)

-- the score at a place; no place scores 0
abbrev pub score_at : List ℕ → ℕ → ℕ
score_at scores place = at scores (place - 1) unless eqb place 0

-- the place that a row gives a site: only the ranked part counts
abbrev pub place_of : List ℕ → ℕ → ℕ
place_of row site = place_in (ranked_part row) site

-- the score that a row gives a site: a site that is not ranked scores 0
abbrev pub score_of : List ℕ → List ℕ → ℕ → ℕ
score_of scores row site = score_at scores (place_of row site)

-- the counted score that a row gives a site: its score times the street's household weight
abbrev pub counted_of : ℕ → List ℕ → List ℕ → ℕ → ℕ
counted_of weight scores row site = weight * score_of scores row site

-- the length of the shortest of the first n lists; no list is longer than m
abbrev pub shortest_of : ℕ → ℕ → List ℕ → ℕ
shortest_of zero m rows = m
shortest_of (suc n) m rows = min (shortest_of n m rows) (length (ranked_part (row_at m rows n)))

-- the least of the first n weights; no weight is above the greatest
abbrev pub least_of : ℕ → List ℕ → ℕ
least_of zero weights = top_weight
least_of (suc n) weights = min (least_of n weights) (at weights n)

-- all streets have the same weight, that of the first
abbrev pub Even : List ℕ → Type 0
Even weights = (s : ℕ) → s < length weights → at weights s ≡ at weights 0

-- ---- of a town
-- the row of a street
abbrev pub row_of : Town → ℕ → List ℕ
row_of t street = row_at t.m t.rows street

-- the list of a street: the sites that it ranked, best first
abbrev pub list_of_street : Town → ℕ → List ℕ
list_of_street t street = ranked_part (row_of t street)

-- the place that a street gives a site
abbrev pub street_place : Town → ℕ → ℕ → ℕ
street_place t street site = place_of (row_of t street) site

-- the score that a street gives a site, without its weight
abbrev pub score : Town → ℕ → ℕ → ℕ
score t street site = score_of t.scores (row_of t street) site

-- the value `v street site` of the theory: the counted score that the street gives the site
abbrev pub value : Town → ℕ → ℕ → ℕ
value t street site = counted_of (at t.weights street) t.scores (row_of t street) site

-- the length of the shortest list
abbrev pub shortest : Town → ℕ
shortest t = shortest_of t.n t.m t.rows

-- the smallest weight
abbrev pub least_weight : Town → ℕ
least_weight t = least_of t.n t.weights

-- w is the smallest weight: no street's is less, and some street has it
pub record SmallestWeight (t : Town) (w : ℕ) : Type 0 where
  pub low : (s : ℕ) → s < t.n → w ≤ at t.weights s
  pub some : (s : ℕ) × (s < t.n) × (at t.weights s ≡ w)
