-- Lines of towns whose streets have household weights, as document 02's request 2026-05 has them.
-- Assumes nothing.
use Rattle.std.specs.Prelude.{ℕ, List, [], ◌∷◌, ◌++◌, replicate}
use Rattle.refusals.specs.Inputs.{SurveyInput}
use Rattle.worked_towns.specs.Lines.{Line, weighed, Check, WeighedRow, ListTotal, FreeDivision, BalancedDivision, FreePlan, BalancedPlan, Rounds}
use Rattle.worked_towns.specs.Lines.{Floor, FreeHand, BalancedHand, Bound, blank}

-- P1 with weights
abbrev pub p1with : ℕ → List ℕ → SurveyInput
p1with k weights = weighed 4 3 k (2 ∷ 1 ∷ 0 ∷ []) weights (1 ∷ 2 ∷ 3 ∷ 1 ∷ 3 ∷ 2 ∷ 2 ∷ 1 ∷ 0 ∷ 3 ∷ 2 ∷ 1 ∷ [])

-- street 4 counts twice
abbrev pub p1large : ℕ → SurveyInput
p1large k = p1with k (1 ∷ 1 ∷ 1 ∷ 2 ∷ [])

-- no two streets count alike, and none counts once
abbrev pub p1mixed : ℕ → SurveyInput
p1mixed k = p1with k (4 ∷ 3 ∷ 2 ∷ 5 ∷ [])

-- P5 with weights
abbrev pub p5with : List ℕ → SurveyInput
p5with weights = weighed 2 2 2 (2 ∷ 1 ∷ []) weights (1 ∷ 2 ∷ 1 ∷ 0 ∷ [])

-- both streets have site 1 at place 1: a larger street 2 is dealt to it first, and street 1 is left, for which site 3 is worth more than site 2
abbrev pub leftover : List ℕ → SurveyInput
leftover weights = weighed 2 3 2 (4 ∷ 2 ∷ 0 ∷ []) weights (1 ∷ 3 ∷ 2 ∷ 1 ∷ 0 ∷ 0 ∷ [])

-- site 1 has the counted score 2 with every street: the places, 1 with streets 1 and 3 and 2 with street 2, decide who is dealt to it
abbrev pub levelled : SurveyInput
levelled = weighed 3 3 2 (2 ∷ 1 ∷ 0 ∷ []) (1 ∷ 2 ∷ 1 ∷ []) (1 ∷ 0 ∷ 0 ∷ 2 ∷ 1 ∷ 3 ∷ 1 ∷ 3 ∷ 2 ∷ [])

-- weights change the sites: with street 4 counted twice P1's plans take site 3 in place of site 2. Counted totals, divisions and claims; the free plan
-- of counted totals has its bound over them
abbrev pub counted : List Line
counted =
    FreePlan (p1large 2) 0 9 (1 ∷ 1 ∷ 1 ∷ 3 ∷ []) (1 ∷ 3 ∷ []) ∷
    BalancedPlan (p1large 2) 0 8 (1 ∷ 1 ∷ 3 ∷ 3 ∷ []) (3 ∷ 1 ∷ []) ∷
    BalancedPlan (p1large 3) 0 9 (1 ∷ 3 ∷ 2 ∷ 3 ∷ []) (3 ∷ 1 ∷ 2 ∷ []) ∷
    ListTotal (p1large 2) (1 ∷ 2 ∷ []) 0 8 ∷
    ListTotal (p1large 2) (1 ∷ 3 ∷ []) 0 9 ∷
    FreeDivision (p1large 2) (3 ∷ 1 ∷ []) 0 9 (1 ∷ 1 ∷ 1 ∷ 3 ∷ []) ∷
    BalancedDivision (p1large 2) (1 ∷ 2 ∷ []) 0 8 (1 ∷ 1 ∷ 2 ∷ 2 ∷ []) ∷
    Bound (p1with 2 (3 ∷ 1 ∷ 2 ∷ 4 ∷ [])) (1 ∷ 3 ∷ []) 2 18 ∷
    FreePlan (p1with 2 (99 ∷ 99 ∷ 99 ∷ 99 ∷ [])) 0 693 (1 ∷ 1 ∷ 2 ∷ 2 ∷ []) (1 ∷ 2 ∷ []) ∷
    FreeHand (p1large 2) (1 ∷ 1 ∷ 1 ∷ 3 ∷ []) 9 0 ∷
    FreeHand (p1large 2) (1 ∷ 1 ∷ 1 ∷ 3 ∷ []) 7 19 ∷
    BalancedHand (p1large 2) (1 ∷ 1 ∷ 3 ∷ 3 ∷ []) 8 0 ∷
    BalancedHand (p1large 2) (1 ∷ 1 ∷ 3 ∷ 3 ∷ []) 6 19 ∷
    ListTotal (weighed 400 1 1 (1000 ∷ []) (replicate 400 99) (replicate 400 1)) (1 ∷ []) 0 39600000 ∷
    []

-- the rounds go by counted score first, then by place, then by number. In P5 the weights change who is dealt, and nothing else; where a street is left
-- they change the sites by that alone
abbrev pub ordered : List Line
ordered =
    Rounds (p5with (1 ∷ 1 ∷ [])) 2 (1 ∷ 2 ∷ []) ∷
    BalancedPlan (p5with (1 ∷ 1 ∷ [])) 0 3 (2 ∷ 1 ∷ []) (1 ∷ 2 ∷ []) ∷
    Rounds (p5with (1 ∷ 2 ∷ [])) 5 (2 ∷ 1 ∷ []) ∷
    BalancedPlan (p5with (1 ∷ 2 ∷ [])) 0 5 (2 ∷ 1 ∷ []) (1 ∷ 2 ∷ []) ∷
    BalancedPlan (leftover (1 ∷ 1 ∷ [])) 0 4 (1 ∷ 2 ∷ []) (1 ∷ 2 ∷ []) ∷
    Rounds (leftover (1 ∷ 3 ∷ [])) 14 (3 ∷ 1 ∷ []) ∷
    BalancedPlan (leftover (1 ∷ 3 ∷ [])) 0 14 (3 ∷ 1 ∷ []) (1 ∷ 3 ∷ []) ∷
    BalancedPlan (leftover (3 ∷ 3 ∷ [])) 0 12 (1 ∷ 2 ∷ []) (1 ∷ 2 ∷ []) ∷
    Rounds levelled 8 (1 ∷ 2 ∷ 1 ∷ []) ∷
    BalancedPlan levelled 0 8 (1 ∷ 2 ∷ 1 ∷ []) (1 ∷ 2 ∷ []) ∷
    []

-- the floor is multiplied by the smallest weight, wherever it stands
abbrev pub weighed_floors : List Line
weighed_floors =
    Floor (p1large 2) 0 2 ∷
    Floor (p1mixed 2) 0 4 ∷
    Floor (p1mixed 3) 0 10 ∷
    Floor (p1with 2 (2 ∷ 3 ∷ 4 ∷ 5 ∷ [])) 0 4 ∷
    Floor (p1with 2 (9 ∷ 8 ∷ 7 ∷ 6 ∷ [])) 0 12 ∷
    Floor (p1with 2 (99 ∷ 99 ∷ 99 ∷ 99 ∷ [])) 0 198 ∷
    []

-- one row: the weight times the score; 24 for a weight outside 1 to 99, after 8 and before the row
abbrev pub weighed_rows : List Line
weighed_rows =
    WeighedRow 2 (5 ∷ 4 ∷ []) 1 (2 ∷ 1 ∷ []) 1 0 4 ∷
    WeighedRow 2 (5 ∷ 4 ∷ []) 7 (2 ∷ 1 ∷ []) 1 0 28 ∷
    WeighedRow 2 (5 ∷ 4 ∷ []) 99 (2 ∷ 1 ∷ []) 2 0 495 ∷
    WeighedRow 2 (5 ∷ 4 ∷ []) 99 (2 ∷ 0 ∷ []) 1 0 0 ∷
    WeighedRow 1 (1000 ∷ []) 99 (1 ∷ []) 1 0 99000 ∷
    WeighedRow 2 (5 ∷ 4 ∷ []) 0 (2 ∷ 1 ∷ []) 1 24 0 ∷
    WeighedRow 2 (5 ∷ 4 ∷ []) 100 (2 ∷ 1 ∷ []) 1 24 0 ∷
    WeighedRow 2 (5 ∷ 4 ∷ []) 255 (2 ∷ 1 ∷ []) 1 24 0 ∷
    WeighedRow 2 (5 ∷ 4 ∷ []) 0 (2 ∷ []) 1 6 0 ∷
    WeighedRow 2 (5 ∷ 6 ∷ []) 0 (2 ∷ 1 ∷ []) 1 8 0 ∷
    WeighedRow 2 (5 ∷ 4 ∷ []) 0 (0 ∷ 1 ∷ []) 1 24 0 ∷
    WeighedRow 2 (5 ∷ 4 ∷ []) 100 (2 ∷ 2 ∷ []) 3 24 0 ∷
    []

-- the weights of a survey: 6 where they are not n, 24 where one is outside 1 to 99, after 8 and before 9, 10 and 11, in every call
abbrev pub weighed_refused : List Line
weighed_refused =
    Check (p1with 2 (1 ∷ 99 ∷ 1 ∷ 99 ∷ [])) 0 ∷
    Check (p1with 2 (0 ∷ 1 ∷ 1 ∷ 1 ∷ [])) 24 ∷
    Check (p1with 2 (1 ∷ 1 ∷ 1 ∷ 0 ∷ [])) 24 ∷
    Check (p1with 2 (100 ∷ 1 ∷ 1 ∷ 1 ∷ [])) 24 ∷
    Check (p1with 2 (1 ∷ 1 ∷ 1 ∷ 100 ∷ [])) 24 ∷
    Check (p1with 2 (1 ∷ 1 ∷ 1 ∷ [])) 6 ∷
    Check (p1with 2 (1 ∷ 1 ∷ 1 ∷ 1 ∷ 1 ∷ [])) 6 ∷
    Check (p1with 2 []) 6 ∷
    Check (p1with 4 (0 ∷ [])) 3 ∷
    Check (weighed 1 2 1 (1 ∷ 2 ∷ []) (0 ∷ 0 ∷ []) (1 ∷ 0 ∷ [])) 6 ∷
    Check (weighed 1 2 1 (1 ∷ 2 ∷ []) (0 ∷ []) (0 ∷ 1 ∷ [])) 8 ∷
    Check (weighed 1 2 1 (1 ∷ 1 ∷ []) (0 ∷ []) (0 ∷ 1 ∷ [])) 24 ∷
    Check (weighed 1 2 1 (1 ∷ 1 ∷ []) (100 ∷ []) (3 ∷ 0 ∷ [])) 24 ∷
    Check (weighed 1 2 1 (1 ∷ 1 ∷ []) (100 ∷ []) (2 ∷ 2 ∷ [])) 24 ∷
    Check (weighed 2 2 1 (1 ∷ 1 ∷ []) (1 ∷ 0 ∷ []) (2 ∷ 2 ∷ 1 ∷ 0 ∷ [])) 24 ∷
    ListTotal (p1with 2 (1 ∷ 0 ∷ 1 ∷ 1 ∷ [])) (4 ∷ []) 24 0 ∷
    FreeDivision (p1with 2 (1 ∷ 0 ∷ 1 ∷ 1 ∷ [])) (1 ∷ 2 ∷ []) 24 0 (blank 4) ∷
    BalancedDivision (p1with 2 (1 ∷ 100 ∷ 1 ∷ 1 ∷ [])) (1 ∷ 2 ∷ []) 24 0 (blank 4) ∷
    FreePlan (p1with 2 (1 ∷ 1 ∷ 100 ∷ 1 ∷ [])) 24 0 (blank 4) (blank 2) ∷
    BalancedPlan (p1with 2 (1 ∷ 1 ∷ 0 ∷ 1 ∷ [])) 24 0 (blank 4) (blank 2) ∷
    BalancedPlan (p1with 2 (1 ∷ 1 ∷ 1 ∷ [])) 6 0 (blank 4) (blank 2) ∷
    Floor (p1with 2 (1 ∷ 1 ∷ 0 ∷ 1 ∷ [])) 24 0 ∷
    FreeHand (p1with 2 (1 ∷ 1 ∷ 0 ∷ 1 ∷ [])) (4 ∷ 4 ∷ 4 ∷ 4 ∷ []) 0 24 ∷
    BalancedHand (p1with 2 (1 ∷ 1 ∷ 1 ∷ 100 ∷ [])) (1 ∷ 1 ∷ 2 ∷ 2 ∷ []) 7 24 ∷
    []

-- all of them
abbrev pub weighted : List Line
weighted = counted ++ ordered ++ weighed_floors ++ weighed_rows ++ weighed_refused
