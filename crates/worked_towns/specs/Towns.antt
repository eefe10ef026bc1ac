-- The surveys of the table: document 01's worked ones, and others that would notice a wrong definition where those do not.
-- Assumes nothing.
use Rattle.std.specs.Prelude.{ℕ, List, [], ◌∷◌}
use Rattle.counting.specs.Buffers.{joined}
use Rattle.refusals.specs.Inputs.{SurveyInput}
use Rattle.worked_towns.specs.Lines.{survey}

-- P1, also P2; with K 3 it is P7
abbrev pub p1 : ℕ → SurveyInput
p1 k = survey 4 3 k (2 ∷ 1 ∷ 0 ∷ []) (1 ∷ 2 ∷ 3 ∷ 1 ∷ 3 ∷ 2 ∷ 2 ∷ 1 ∷ 0 ∷ 3 ∷ 2 ∷ 1 ∷ [])

-- P3, also P4
abbrev pub p3 : SurveyInput
p3 = survey 6 3 2 (1 ∷ 1 ∷ 0 ∷ []) (1 ∷ 0 ∷ 0 ∷ 1 ∷ 3 ∷ 0 ∷ 1 ∷ 3 ∷ 0 ∷ 2 ∷ 3 ∷ 0 ∷ 2 ∷ 3 ∷ 0 ∷ 2 ∷ 0 ∷ 0 ∷ [])

-- P5
abbrev pub p5 : SurveyInput
p5 = survey 2 2 2 (2 ∷ 1 ∷ []) (1 ∷ 2 ∷ 1 ∷ 0 ∷ [])

-- P6: nine streets with one full list of ten sites
abbrev pub p6 : SurveyInput
p6 = survey 9 10 3 (9 ∷ 8 ∷ 7 ∷ 6 ∷ 5 ∷ 4 ∷ 3 ∷ 2 ∷ 1 ∷ 0 ∷ []) (joined 9 (λ i. (1 ∷ 2 ∷ 3 ∷ 4 ∷ 5 ∷ 6 ∷ 7 ∷ 8 ∷ 9 ∷ 10 ∷ [])))

-- P8
abbrev pub p8 : SurveyInput
p8 = survey 1 1 1 (7 ∷ []) (0 ∷ [])

-- the second round has only a rise of 0
abbrev pub riseless : SurveyInput
riseless = survey 1 2 2 (1 ∷ 1 ∷ []) (2 ∷ 0 ∷ [])

-- over all free streets site 2 would come first, over a share site 1 does
abbrev pub crowded : SurveyInput
crowded = survey 2 2 2 (3 ∷ 3 ∷ []) (1 ∷ 2 ∷ 2 ∷ 0 ∷ [])

-- two places score alike: the better place decides who is dealt
abbrev pub level : SurveyInput
level = survey 2 3 2 (2 ∷ 2 ∷ 1 ∷ []) (3 ∷ 2 ∷ 0 ∷ 2 ∷ 0 ∷ 0 ∷ [])

-- no swap of two streets gains after the rounds; a ring through three sites does
abbrev pub ring : SurveyInput
ring = survey 3 3 3 (3 ∷ 2 ∷ 0 ∷ []) (3 ∷ 2 ∷ 0 ∷ 3 ∷ 0 ∷ 0 ∷ 2 ∷ 1 ∷ 0 ∷ [])

-- every division totals 0
abbrev pub tied : SurveyInput
tied = survey 2 2 2 (0 ∷ 0 ∷ []) (0 ∷ 0 ∷ 1 ∷ 0 ∷ [])

-- all streets and all scores alike
abbrev pub alike : SurveyInput
alike = survey 4 2 2 (1 ∷ 1 ∷ []) (1 ∷ 2 ∷ 1 ∷ 2 ∷ 1 ∷ 2 ∷ 1 ∷ 2 ∷ [])

-- one list is empty
abbrev pub short : SurveyInput
short = survey 2 2 1 (5 ∷ 5 ∷ []) (1 ∷ 2 ∷ 0 ∷ 0 ∷ [])

-- three streets over two sites: site 2 is chosen first and has two of them
abbrev pub three : SurveyInput
three = survey 3 2 2 (2 ∷ 1 ∷ []) (2 ∷ 1 ∷ 2 ∷ 1 ∷ 2 ∷ 0 ∷ [])

-- five streets over three sites: the two that are chosen first, 2 and 3, have two each
abbrev pub five : SurveyInput
five = survey 5 3 3 (3 ∷ 1 ∷ 0 ∷ []) (2 ∷ 1 ∷ 3 ∷ 3 ∷ 0 ∷ 0 ∷ 2 ∷ 1 ∷ 0 ∷ 3 ∷ 2 ∷ 0 ∷ 2 ∷ 0 ∷ 0 ∷ [])

-- ten streets over three sites: site 2 is chosen first and has four of them
abbrev pub ten : SurveyInput
ten = survey 10 3 3 (3 ∷ 1 ∷ 0 ∷ [])
    (2 ∷ 1 ∷ 3 ∷ 3 ∷ 0 ∷ 0 ∷ 2 ∷ 1 ∷ 0 ∷ 3 ∷ 2 ∷ 0 ∷ 2 ∷ 0 ∷ 0 ∷ 3 ∷ 1 ∷ 2 ∷ 2 ∷ 3 ∷ 1 ∷ 1 ∷ 2 ∷ 3 ∷ 3 ∷ 2 ∷ 0 ∷ 1 ∷ 3 ∷ 2 ∷ [])

-- two streets, and for K 3 more sites than streets
abbrev pub few : ℕ → SurveyInput
few k = survey 2 3 k (2 ∷ 1 ∷ 0 ∷ []) (1 ∷ 2 ∷ 3 ∷ 1 ∷ 3 ∷ 2 ∷ [])

-- P5 as a file
abbrev pub p5file : List ℕ
p5file = (84 ∷ 78 ∷ 2 ∷ 0 ∷ 2 ∷ 2 ∷ 1 ∷ 83 ∷ 67 ∷ 2 ∷ 0 ∷ 1 ∷ 0 ∷ 83 ∷ 84 ∷ 1 ∷ 0 ∷ 2 ∷ 1 ∷ 2 ∷ 83 ∷ 84 ∷ 2 ∷ 0 ∷ 1 ∷ 1 ∷ 69 ∷ 78 ∷ [])

-- and more sites than streets as one
abbrev pub fewfile : List ℕ
fewfile = (84 ∷ 78 ∷ 2 ∷ 0 ∷ 3 ∷ 3 ∷ 1 ∷ 83 ∷ 67 ∷ 2 ∷ 0 ∷ 1 ∷ 0 ∷ 0 ∷ 0 ∷ 83 ∷ 84 ∷ 1 ∷ 0 ∷ 3 ∷ 1 ∷ 2 ∷ 3 ∷ 83 ∷ 84 ∷ 2 ∷ 0 ∷ 3 ∷ 1 ∷ 3 ∷ 2 ∷ 69 ∷ 78 ∷ [])
