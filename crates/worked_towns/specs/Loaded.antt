-- Lines of hand plans with loads, as document 02's request 2026-02 has them.
-- Assumes nothing.
use Rattle.std.specs.Prelude.{ℕ, List, [], ◌∷◌, ◌++◌}
use Rattle.loads.specs.Loads.{Loads, loads_of}
use Rattle.worked_towns.specs.Lines.{Line, survey, FreeLoaded, BalancedLoaded}
use Rattle.worked_towns.specs.Towns.{p1, p5, p8, few}

-- P1's four streets bring 5, 6, 7, 8 kilograms and 1, 2, 3, 4 litres; given are the limits of its three sites. In its plan 1, 1, 2, 2 site 1 has 11
-- kilograms and 3 litres, site 2 has 15 and 7, and site 3 has none
abbrev pub limited : List ℕ → List ℕ → Loads
limited = loads_of (5 ∷ 6 ∷ 7 ∷ 8 ∷ []) (1 ∷ 2 ∷ 3 ∷ 4 ∷ [])

-- the same where street 4 brings other loads, kilograms and litres
abbrev pub fourth : ℕ → ℕ → Loads
fourth kilograms litres = loads_of (5 ∷ 6 ∷ 7 ∷ kilograms ∷ []) (1 ∷ 2 ∷ 3 ∷ litres ∷ []) (11 ∷ 7 ∷ 0 ∷ []) (3 ∷ 3 ∷ 0 ∷ [])

-- a sum at its limit passes; one kilogram more is 22 and one litre more 23; of two the lower site decides, and at one site kilograms come first
abbrev pub filled : List Line
filled =
    FreeLoaded (p1 2) (1 ∷ 1 ∷ 2 ∷ 2 ∷ []) 7 (limited (11 ∷ 15 ∷ 0 ∷ []) (3 ∷ 7 ∷ 0 ∷ [])) 0 ∷
    FreeLoaded (p1 2) (1 ∷ 1 ∷ 2 ∷ 2 ∷ []) 7 (limited (10 ∷ 15 ∷ 0 ∷ []) (3 ∷ 7 ∷ 0 ∷ [])) 22 ∷
    FreeLoaded (p1 2) (1 ∷ 1 ∷ 2 ∷ 2 ∷ []) 7 (limited (11 ∷ 14 ∷ 0 ∷ []) (3 ∷ 7 ∷ 0 ∷ [])) 22 ∷
    FreeLoaded (p1 2) (1 ∷ 1 ∷ 2 ∷ 2 ∷ []) 7 (limited (11 ∷ 15 ∷ 0 ∷ []) (2 ∷ 7 ∷ 0 ∷ [])) 23 ∷
    FreeLoaded (p1 2) (1 ∷ 1 ∷ 2 ∷ 2 ∷ []) 7 (limited (11 ∷ 15 ∷ 0 ∷ []) (3 ∷ 6 ∷ 0 ∷ [])) 23 ∷
    FreeLoaded (p1 2) (1 ∷ 1 ∷ 2 ∷ 2 ∷ []) 7 (limited (11 ∷ 14 ∷ 0 ∷ []) (2 ∷ 7 ∷ 0 ∷ [])) 23 ∷
    FreeLoaded (p1 2) (1 ∷ 1 ∷ 2 ∷ 2 ∷ []) 7 (limited (10 ∷ 15 ∷ 0 ∷ []) (3 ∷ 6 ∷ 0 ∷ [])) 22 ∷
    FreeLoaded (p1 2) (1 ∷ 1 ∷ 2 ∷ 2 ∷ []) 7 (limited (10 ∷ 15 ∷ 0 ∷ []) (2 ∷ 7 ∷ 0 ∷ [])) 22 ∷
    FreeLoaded (p1 2) (3 ∷ 3 ∷ 3 ∷ 3 ∷ []) 3 (limited (0 ∷ 0 ∷ 26 ∷ []) (0 ∷ 0 ∷ 10 ∷ [])) 0 ∷
    FreeLoaded (p1 2) (3 ∷ 3 ∷ 3 ∷ 3 ∷ []) 3 (limited (0 ∷ 0 ∷ 25 ∷ []) (0 ∷ 0 ∷ 10 ∷ [])) 22 ∷
    FreeLoaded (p1 2) (0 ∷ 0 ∷ 0 ∷ 0 ∷ []) 0 (limited (0 ∷ 0 ∷ 0 ∷ []) (0 ∷ 0 ∷ 0 ∷ [])) 0 ∷
    BalancedLoaded (p1 2) (1 ∷ 1 ∷ 2 ∷ 2 ∷ []) 7 (limited (11 ∷ 15 ∷ 0 ∷ []) (3 ∷ 7 ∷ 0 ∷ [])) 0 ∷
    BalancedLoaded (p1 2) (1 ∷ 1 ∷ 2 ∷ 2 ∷ []) 7 (limited (11 ∷ 14 ∷ 0 ∷ []) (3 ∷ 7 ∷ 0 ∷ [])) 22 ∷
    BalancedLoaded (p1 2) (1 ∷ 1 ∷ 2 ∷ 2 ∷ []) 7 (limited (11 ∷ 15 ∷ 0 ∷ []) (3 ∷ 6 ∷ 0 ∷ [])) 23 ∷
    BalancedLoaded (p1 2) (1 ∷ 1 ∷ 2 ∷ 2 ∷ []) 7 (limited (11 ∷ 14 ∷ 0 ∷ []) (2 ∷ 7 ∷ 0 ∷ [])) 23 ∷
    BalancedLoaded (p1 3) (1 ∷ 1 ∷ 2 ∷ 3 ∷ []) 8 (limited (11 ∷ 7 ∷ 8 ∷ []) (3 ∷ 3 ∷ 4 ∷ [])) 0 ∷
    BalancedLoaded (p1 3) (1 ∷ 1 ∷ 2 ∷ 3 ∷ []) 8 (limited (11 ∷ 7 ∷ 8 ∷ []) (3 ∷ 3 ∷ 3 ∷ [])) 23 ∷
    []

-- street 4, where it is unserved, loads no site, but what it brings is tried for 21; so is the limit of a site that no street has. A site may be filled
-- up to the greatest limit
abbrev pub greatest : List Line
greatest =
    FreeLoaded (p1 2) (1 ∷ 1 ∷ 2 ∷ 0 ∷ []) 6 (fourth 1000000 1000000) 0 ∷
    FreeLoaded (p1 2) (1 ∷ 1 ∷ 2 ∷ 0 ∷ []) 6 (fourth 1000001 0) 21 ∷
    FreeLoaded (p1 2) (1 ∷ 1 ∷ 2 ∷ 0 ∷ []) 6 (fourth 0 1000001) 21 ∷
    FreeLoaded (p1 2) (1 ∷ 1 ∷ 2 ∷ 2 ∷ []) 7 (fourth 1000000 0) 22 ∷
    FreeLoaded (p1 2) (1 ∷ 1 ∷ 2 ∷ 2 ∷ []) 7 (limited (1000000 ∷ 1000000 ∷ 1000000 ∷ []) (1000000 ∷ 1000000 ∷ 1000000 ∷ [])) 0 ∷
    FreeLoaded (p1 2) (1 ∷ 1 ∷ 2 ∷ 2 ∷ []) 7 (limited (11 ∷ 15 ∷ 1000001 ∷ []) (3 ∷ 7 ∷ 0 ∷ [])) 21 ∷
    FreeLoaded (p1 2) (1 ∷ 1 ∷ 2 ∷ 2 ∷ []) 7 (limited (11 ∷ 15 ∷ 0 ∷ []) (3 ∷ 7 ∷ 1000001 ∷ [])) 21 ∷
    BalancedLoaded p8 (1 ∷ []) 0 (loads_of (1000000 ∷ []) (1000000 ∷ []) (1000000 ∷ []) (1000000 ∷ [])) 0 ∷
    BalancedLoaded p8 (1 ∷ []) 0 (loads_of (1000000 ∷ []) (1000000 ∷ []) (999999 ∷ []) (1000000 ∷ [])) 22 ∷
    BalancedLoaded p8 (1 ∷ []) 0 (loads_of (1000000 ∷ []) (1000000 ∷ []) (1000000 ∷ []) (999999 ∷ [])) 23 ∷
    BalancedLoaded p8 (1 ∷ []) 0 (loads_of (1000000 ∷ []) (1000000 ∷ []) (1000001 ∷ []) (1000000 ∷ [])) 21 ∷
    BalancedLoaded p5 (2 ∷ 2 ∷ []) 1 (loads_of (4294967295 ∷ 1 ∷ []) (0 ∷ 0 ∷ []) (0 ∷ 0 ∷ []) (0 ∷ 0 ∷ [])) 21 ∷
    []

-- what is tried first: 5, then 6 for each of the four buffers, 11, 21, 17, 18, 22 and 23, and 19 last
abbrev pub loads_in_turn : List Line
loads_in_turn =
    BalancedLoaded (few 3) (1 ∷ 1 ∷ []) 4 (loads_of [] [] [] []) 5 ∷
    FreeLoaded (p1 2) (1 ∷ 1 ∷ 2 ∷ 2 ∷ []) 7 (loads_of (5 ∷ 6 ∷ 7 ∷ []) (1 ∷ 2 ∷ 3 ∷ 4 ∷ []) (11 ∷ 15 ∷ 0 ∷ []) (3 ∷ 7 ∷ 0 ∷ [])) 6 ∷
    FreeLoaded (p1 2) (1 ∷ 1 ∷ 2 ∷ 2 ∷ []) 7 (loads_of (5 ∷ 6 ∷ 7 ∷ 8 ∷ []) (1 ∷ 2 ∷ 3 ∷ 4 ∷ 0 ∷ []) (11 ∷ 15 ∷ 0 ∷ []) (3 ∷ 7 ∷ 0 ∷ [])) 6 ∷
    BalancedLoaded (p1 2) (1 ∷ 1 ∷ 2 ∷ 2 ∷ []) 7 (limited (11 ∷ 15 ∷ []) (3 ∷ 7 ∷ 0 ∷ [])) 6 ∷
    BalancedLoaded (p1 2) (1 ∷ 1 ∷ 2 ∷ 2 ∷ []) 7 (limited (11 ∷ 15 ∷ 0 ∷ []) (3 ∷ 7 ∷ 0 ∷ 0 ∷ [])) 6 ∷
    FreeLoaded (survey 1 2 1 (1 ∷ 2 ∷ []) (2 ∷ 2 ∷ [])) (1 ∷ []) 0 (loads_of (1000001 ∷ []) [] (0 ∷ 0 ∷ []) (0 ∷ 0 ∷ [])) 6 ∷
    FreeLoaded (survey 1 2 1 (1 ∷ 1 ∷ []) (2 ∷ 2 ∷ [])) (1 ∷ []) 0 (loads_of (1000001 ∷ []) (0 ∷ []) (0 ∷ 0 ∷ []) (0 ∷ 0 ∷ [])) 11 ∷
    FreeLoaded (p1 2) (1 ∷ 1 ∷ 2 ∷ 4 ∷ []) 7 (fourth 1000001 0) 21 ∷
    FreeLoaded (p1 2) (1 ∷ 1 ∷ 2 ∷ 4 ∷ []) 7 (limited (0 ∷ 0 ∷ 0 ∷ []) (0 ∷ 0 ∷ 0 ∷ [])) 17 ∷
    FreeLoaded (p1 2) (1 ∷ 2 ∷ 3 ∷ 0 ∷ []) 9 (limited (0 ∷ 0 ∷ 0 ∷ []) (0 ∷ 0 ∷ 0 ∷ [])) 18 ∷
    FreeLoaded (p1 2) (1 ∷ 1 ∷ 2 ∷ 2 ∷ []) 9 (limited (10 ∷ 15 ∷ 0 ∷ []) (3 ∷ 7 ∷ 0 ∷ [])) 22 ∷
    FreeLoaded (p1 2) (1 ∷ 1 ∷ 2 ∷ 2 ∷ []) 9 (limited (11 ∷ 15 ∷ 0 ∷ []) (3 ∷ 6 ∷ 0 ∷ [])) 23 ∷
    FreeLoaded (p1 2) (1 ∷ 1 ∷ 2 ∷ 2 ∷ []) 9 (limited (11 ∷ 15 ∷ 0 ∷ []) (3 ∷ 7 ∷ 0 ∷ [])) 19 ∷
    BalancedLoaded (p1 2) (1 ∷ 1 ∷ 2 ∷ 0 ∷ []) 6 (fourth 1000001 0) 21 ∷
    BalancedLoaded (p1 2) (1 ∷ 1 ∷ 2 ∷ 0 ∷ []) 6 (limited (0 ∷ 0 ∷ 0 ∷ []) (0 ∷ 0 ∷ 0 ∷ [])) 17 ∷
    BalancedLoaded (p1 2) (1 ∷ 1 ∷ 1 ∷ 2 ∷ []) 9 (limited (0 ∷ 0 ∷ 0 ∷ []) (0 ∷ 0 ∷ 0 ∷ [])) 18 ∷
    BalancedLoaded (p1 2) (1 ∷ 1 ∷ 2 ∷ 2 ∷ []) 9 (limited (11 ∷ 14 ∷ 0 ∷ []) (3 ∷ 7 ∷ 0 ∷ [])) 22 ∷
    BalancedLoaded (p1 2) (1 ∷ 1 ∷ 2 ∷ 2 ∷ []) 9 (limited (11 ∷ 15 ∷ 0 ∷ []) (3 ∷ 7 ∷ 0 ∷ [])) 19 ∷
    []

-- all of them
abbrev pub loaded : List Line
loaded = filled ++ greatest ++ loads_in_turn
