-- Document 01's worked surveys P1 to P8, with P7 as document 02's request 2026-01 has it, and lines that would notice a wrong definition where
-- those eight do not.
-- Assumes nothing.
use Rattle.std.specs.Prelude.{List, [], ◌∷◌, ◌++◌, replicate, set, take}
use Rattle.worked_towns.specs.Lines.{Line, survey, Check, RowScore, ListTotal, FreeDivision, BalancedDivision, FreePlan, BalancedPlan, Rounds, Floor}
use Rattle.worked_towns.specs.Lines.{Places, OfKind, Hand, FreeHand, BalancedHand, Bound, File, Read, Write, blank}
use Rattle.worked_towns.specs.Towns.{p1, p3, p5, p6, p8, riseless, crowded, level, ring, tied, alike, short, three, five, ten, few, p5file, fewfile}
use Rattle.worked_towns.specs.Loaded.{loaded}
use Rattle.worked_towns.specs.Weighted.{weighted}
use Rattle.worked_towns.specs.WeightedFiles.{weighted_files}

-- P1 to P8
abbrev pub worked : List Line
worked =
    FreePlan (p1 2) 0 7 (1 ∷ 1 ∷ 2 ∷ 2 ∷ []) (1 ∷ 2 ∷ []) ∷
    ListTotal (p1 2) (1 ∷ 3 ∷ []) 0 7 ∷
    BalancedPlan (p1 2) 0 7 (1 ∷ 1 ∷ 2 ∷ 2 ∷ []) (1 ∷ 2 ∷ []) ∷
    Floor (p1 2) 0 2 ∷
    FreePlan p3 0 5 (1 ∷ 1 ∷ 1 ∷ 3 ∷ 3 ∷ 0 ∷ []) (3 ∷ 1 ∷ []) ∷
    Bound p3 (1 ∷ 2 ∷ []) 1 6 ∷
    BalancedPlan p3 0 6 (1 ∷ 1 ∷ 1 ∷ 2 ∷ 2 ∷ 2 ∷ []) (1 ∷ 2 ∷ []) ∷
    Rounds p5 2 (1 ∷ 2 ∷ []) ∷
    BalancedPlan p5 0 3 (2 ∷ 1 ∷ []) (1 ∷ 2 ∷ []) ∷
    Places 10 3 (4 ∷ 6 ∷ 10 ∷ []) ∷
    Floor p6 0 30 ∷
    FreePlan (p1 3) 0 8 (1 ∷ 1 ∷ 2 ∷ 3 ∷ []) (1 ∷ 2 ∷ 3 ∷ []) ∷
    BalancedPlan (p1 3) 0 8 (1 ∷ 1 ∷ 2 ∷ 3 ∷ []) (1 ∷ 2 ∷ 3 ∷ []) ∷
    FreePlan p8 0 0 (0 ∷ []) (1 ∷ []) ∷
    BalancedPlan p8 0 0 (1 ∷ []) (1 ∷ []) ∷
    []

-- plans beside P1 to P8
abbrev pub plans : List Line
plans =
    FreePlan riseless 0 1 (2 ∷ []) (2 ∷ 1 ∷ []) ∷
    BalancedPlan crowded 0 6 (1 ∷ 2 ∷ []) (1 ∷ 2 ∷ []) ∷
    Rounds level 4 (3 ∷ 2 ∷ []) ∷
    BalancedPlan level 0 4 (3 ∷ 2 ∷ []) (2 ∷ 3 ∷ []) ∷
    Rounds ring 6 (3 ∷ 1 ∷ 2 ∷ []) ∷
    BalancedPlan ring 0 7 (2 ∷ 3 ∷ 1 ∷ []) (2 ∷ 3 ∷ 1 ∷ []) ∷
    Rounds tied 0 (2 ∷ 1 ∷ []) ∷
    BalancedPlan tied 0 0 (1 ∷ 2 ∷ []) (1 ∷ 2 ∷ []) ∷
    BalancedDivision alike (2 ∷ 1 ∷ []) 0 4 (1 ∷ 1 ∷ 2 ∷ 2 ∷ []) ∷
    Floor short 0 0 ∷
    FreeDivision p3 (1 ∷ 2 ∷ []) 0 6 (1 ∷ 1 ∷ 1 ∷ 2 ∷ 2 ∷ 2 ∷ []) ∷
    FreeDivision p3 (3 ∷ []) 0 4 (0 ∷ 3 ∷ 3 ∷ 3 ∷ 3 ∷ 0 ∷ []) ∷
    []

-- uneven shares: the first rounds, and the first entries of a list, have one street more, and the floor counts it
abbrev pub uneven : List Line
uneven =
    Rounds (p1 3) 8 (1 ∷ 1 ∷ 2 ∷ 3 ∷ []) ∷
    Floor (p1 3) 0 5 ∷
    BalancedDivision (p1 2) (1 ∷ 2 ∷ 3 ∷ []) 0 8 (1 ∷ 1 ∷ 2 ∷ 3 ∷ []) ∷
    BalancedDivision (p1 2) (2 ∷ 1 ∷ 3 ∷ []) 0 7 (2 ∷ 1 ∷ 2 ∷ 3 ∷ []) ∷
    BalancedDivision (p1 2) (3 ∷ 2 ∷ 1 ∷ []) 0 7 (1 ∷ 3 ∷ 2 ∷ 3 ∷ []) ∷
    Rounds three 4 (2 ∷ 2 ∷ 1 ∷ []) ∷
    BalancedPlan three 0 5 (1 ∷ 2 ∷ 2 ∷ []) (2 ∷ 1 ∷ []) ∷
    BalancedDivision three (1 ∷ 2 ∷ []) 0 4 (1 ∷ 1 ∷ 2 ∷ []) ∷
    Floor three 0 4 ∷
    Rounds five 12 (2 ∷ 3 ∷ 2 ∷ 3 ∷ 1 ∷ []) ∷
    BalancedPlan five 0 13 (1 ∷ 3 ∷ 2 ∷ 3 ∷ 2 ∷ []) (2 ∷ 3 ∷ 1 ∷ []) ∷
    Floor five 0 6 ∷
    Rounds ten 27 (2 ∷ 3 ∷ 2 ∷ 3 ∷ 2 ∷ 3 ∷ 2 ∷ 1 ∷ 1 ∷ 1 ∷ []) ∷
    Floor ten 0 12 ∷
    []

-- the places of the rounds where the quotient is rounded up and where it divides, up to the last row of the table
abbrev pub rounding : List Line
rounding =
    Places 64 1 (64 ∷ []) ∷
    Places 64 2 (32 ∷ 64 ∷ []) ∷
    Places 64 3 (22 ∷ 33 ∷ 64 ∷ []) ∷
    Places 63 4 (16 ∷ 22 ∷ 33 ∷ 63 ∷ []) ∷
    Places 4 4 (1 ∷ 2 ∷ 3 ∷ 4 ∷ []) ∷
    Places 5 4 (2 ∷ 3 ∷ 4 ∷ 5 ∷ []) ∷
    []

-- as many sites as streets, and then one more: 5 in balanced calls and nowhere else, after 3 and before 6, 17 and 20; for a list its length decides
abbrev pub scarce : List Line
scarce =
    BalancedPlan (few 2) 0 3 (1 ∷ 3 ∷ []) (1 ∷ 3 ∷ []) ∷
    BalancedDivision (few 3) (2 ∷ 1 ∷ []) 0 3 (2 ∷ 1 ∷ []) ∷
    BalancedPlan (few 3) 5 0 (blank 2) (blank 3) ∷
    BalancedDivision (few 2) (1 ∷ 2 ∷ 3 ∷ []) 5 0 (blank 2) ∷
    BalancedDivision (few 2) (4 ∷ 4 ∷ 4 ∷ []) 5 0 (blank 2) ∷
    Floor (few 3) 5 0 ∷
    BalancedHand (few 3) (1 ∷ 1 ∷ []) 4 5 ∷
    BalancedHand (few 3) [] 0 5 ∷
    BalancedPlan (few 4) 3 0 (blank 2) (blank 4) ∷
    Check (few 3) 0 ∷
    ListTotal (few 3) (1 ∷ 2 ∷ 3 ∷ []) 0 4 ∷
    FreePlan (few 3) 0 4 (1 ∷ 1 ∷ []) (1 ∷ 2 ∷ 3 ∷ []) ∷
    FreeDivision (few 3) (1 ∷ 2 ∷ 3 ∷ []) 0 4 (1 ∷ 1 ∷ []) ∷
    FreeHand (few 3) (1 ∷ 1 ∷ []) 4 0 ∷
    File (few 3) 1 fewfile ∷
    Write (few 3) 1 33 0 ∷
    []

-- a kind that is neither: 4 after 3 and before 5 and 6; 5 for the balanced kind alone, and what passes as one kind need not pass as the other
abbrev pub kinds : List Line
kinds =
    OfKind 2 (p1 2) 4 0 (blank 4) (blank 2) ∷
    OfKind 255 (p1 2) 4 0 (blank 4) (blank 2) ∷
    OfKind 256 (p1 2) 4 0 (blank 4) (blank 2) ∷
    OfKind 4294967296 (p1 2) 4 0 (blank 4) (blank 2) ∷
    OfKind 2 (survey 0 65 0 [] []) 1 0 [] [] ∷
    OfKind 2 (survey 1 65 0 [] []) 2 0 (blank 1) [] ∷
    OfKind 2 (few 4) 3 0 (blank 2) (blank 4) ∷
    OfKind 2 (few 3) 4 0 (blank 2) (blank 3) ∷
    OfKind 2 (survey 1 2 2 (1 ∷ []) (1 ∷ 0 ∷ [])) 4 0 (blank 1) (blank 2) ∷
    Hand 2 (p1 2) (1 ∷ 1 ∷ 2 ∷ 2 ∷ []) 7 4 ∷
    Hand 256 (p1 2) (1 ∷ 1 ∷ 2 ∷ 2 ∷ []) 7 4 ∷
    Hand 2 (few 4) (1 ∷ 1 ∷ []) 4 3 ∷
    Hand 2 (few 3) [] 0 4 ∷
    FreeHand (p1 2) (1 ∷ 1 ∷ 1 ∷ 2 ∷ []) 6 0 ∷
    BalancedHand (p1 2) (1 ∷ 1 ∷ 1 ∷ 2 ∷ []) 6 18 ∷
    []

-- one row, one site: a site that is not ranked scores 0, whatever the last score is
abbrev pub scored : List Line
scored =
    RowScore 2 (5 ∷ 4 ∷ []) (2 ∷ 0 ∷ []) 1 0 0 ∷
    RowScore 2 (5 ∷ 4 ∷ []) (2 ∷ 0 ∷ []) 2 0 5 ∷
    RowScore 2 (5 ∷ 4 ∷ []) (2 ∷ 1 ∷ []) 1 0 4 ∷
    RowScore 2 (5 ∷ 4 ∷ []) (2 ∷ 1 ∷ []) 0 17 0 ∷
    RowScore 2 (5 ∷ 4 ∷ []) (2 ∷ 1 ∷ []) 3 17 0 ∷
    RowScore 2 (5 ∷ 6 ∷ []) (2 ∷ 1 ∷ []) 3 8 0 ∷
    RowScore 2 (5 ∷ 4 ∷ []) (2 ∷ 2 ∷ []) 3 11 0 ∷
    RowScore 2 (5 ∷ 4 ∷ []) (2 ∷ []) 3 6 0 ∷
    RowScore 65 (5 ∷ 4 ∷ []) (2 ∷ []) 3 2 0 ∷
    []

-- each number on its condition, and of two conditions the one that is tried first
abbrev pub refused : List Line
refused =
    Check (p1 2) 0 ∷
    Check (survey 400 1 1 (7 ∷ []) (replicate 400 0)) 0 ∷
    Check (survey 401 1 1 (7 ∷ []) (replicate 401 0)) 1 ∷
    Check (survey 0 65 0 [] []) 1 ∷
    Check (survey 1 64 64 (replicate 64 0) (replicate 64 0)) 0 ∷
    Check (survey 1 65 1 (replicate 65 0) (replicate 65 0)) 2 ∷
    Check (survey 1 0 0 [] []) 2 ∷
    Check (survey 1 2 0 (1 ∷ 0 ∷ []) (1 ∷ 0 ∷ [])) 3 ∷
    Check (survey 1 2 3 (1 ∷ 0 ∷ []) (1 ∷ 0 ∷ [])) 3 ∷
    Check (survey 1 2 3 (1 ∷ []) (1 ∷ [])) 3 ∷
    Check (survey 1 2 2 (1 ∷ []) (1 ∷ 0 ∷ [])) 6 ∷
    Check (survey 2 2 2 (1 ∷ 2 ∷ []) (1 ∷ 0 ∷ [])) 6 ∷
    Check (survey 1 2 1 (1000 ∷ 0 ∷ []) (1 ∷ 0 ∷ [])) 0 ∷
    Check (survey 1 2 1 (1001 ∷ 0 ∷ []) (0 ∷ 1 ∷ [])) 8 ∷
    Check (survey 1 2 1 (1 ∷ 2 ∷ []) (0 ∷ 1 ∷ [])) 8 ∷
    Check (survey 1 2 1 (1 ∷ 1 ∷ []) (0 ∷ 1 ∷ [])) 9 ∷
    Check (survey 1 2 1 (1 ∷ 1 ∷ []) (0 ∷ 3 ∷ [])) 9 ∷
    Check (survey 1 2 1 (1 ∷ 1 ∷ []) (3 ∷ 3 ∷ [])) 10 ∷
    Check (survey 1 2 1 (1 ∷ 1 ∷ []) (2 ∷ 2 ∷ [])) 11 ∷
    Check (survey 2 2 1 (1 ∷ 1 ∷ []) (1 ∷ 1 ∷ 0 ∷ 1 ∷ [])) 11 ∷
    []

-- lists of sites: 3 for the length, 17 all through, then 20
abbrev pub lists : List Line
lists =
    ListTotal (p1 2) [] 3 0 ∷
    ListTotal (p1 2) (1 ∷ 2 ∷ 3 ∷ 1 ∷ []) 3 0 ∷
    ListTotal (p1 2) (1 ∷ 1 ∷ 4 ∷ []) 17 0 ∷
    ListTotal (p1 2) (0 ∷ []) 17 0 ∷
    ListTotal (p1 2) (2 ∷ 2 ∷ []) 20 0 ∷
    FreeDivision (p1 2) (2 ∷ 2 ∷ []) 20 0 (blank 4) ∷
    BalancedDivision (p1 2) (3 ∷ 3 ∷ []) 20 0 (blank 4) ∷
    []

-- hand plans
abbrev pub hand : List Line
hand =
    FreeHand (p1 2) (1 ∷ 1 ∷ 2 ∷ 2 ∷ []) 7 0 ∷
    FreeHand (p1 2) (1 ∷ 1 ∷ 2 ∷ 0 ∷ []) 6 0 ∷
    FreeHand (p1 2) (1 ∷ 1 ∷ 2 ∷ 2 ∷ []) 8 19 ∷
    FreeHand (p1 2) (1 ∷ 2 ∷ 3 ∷ 0 ∷ []) 8 18 ∷
    FreeHand (p1 2) (1 ∷ 2 ∷ 4 ∷ 0 ∷ []) 8 17 ∷
    BalancedHand (p1 2) (1 ∷ 1 ∷ 2 ∷ 2 ∷ []) 7 0 ∷
    BalancedHand (p1 2) (1 ∷ 2 ∷ 1 ∷ 2 ∷ []) 4 0 ∷
    BalancedHand (p1 2) (1 ∷ 2 ∷ 1 ∷ 2 ∷ []) 6 19 ∷
    BalancedHand (p1 2) (1 ∷ 1 ∷ 1 ∷ 2 ∷ []) 6 18 ∷
    BalancedHand (p1 2) (1 ∷ 1 ∷ 2 ∷ 0 ∷ []) 6 17 ∷
    BalancedHand (p1 3) (1 ∷ 1 ∷ 2 ∷ 0 ∷ []) 6 17 ∷
    []

-- hand plans in uneven shares: which site has the larger share is free, how many sites have either share is not
abbrev pub uneven_hand : List Line
uneven_hand =
    BalancedHand (p1 3) (1 ∷ 1 ∷ 2 ∷ 3 ∷ []) 8 0 ∷
    BalancedHand (p1 3) (2 ∷ 2 ∷ 1 ∷ 3 ∷ []) 4 0 ∷
    BalancedHand (p1 3) (1 ∷ 1 ∷ 2 ∷ 3 ∷ []) 7 19 ∷
    BalancedHand (p1 3) (1 ∷ 1 ∷ 2 ∷ 2 ∷ []) 7 18 ∷
    BalancedHand five (1 ∷ 3 ∷ 2 ∷ 3 ∷ 2 ∷ []) 13 0 ∷
    BalancedHand five (2 ∷ 1 ∷ 1 ∷ 1 ∷ 1 ∷ []) 4 18 ∷
    BalancedHand ten (1 ∷ 3 ∷ 2 ∷ 3 ∷ 2 ∷ 1 ∷ 2 ∷ 1 ∷ 3 ∷ 1 ∷ []) 26 0 ∷
    BalancedHand ten (2 ∷ 3 ∷ 2 ∷ 3 ∷ 2 ∷ 3 ∷ 2 ∷ 1 ∷ 3 ∷ 1 ∷ []) 30 18 ∷
    BalancedHand ten (2 ∷ 3 ∷ 2 ∷ 3 ∷ 2 ∷ 3 ∷ 2 ∷ 1 ∷ 3 ∷ 3 ∷ []) 28 18 ∷
    []

-- P5 as a file, cut and damaged
abbrev pub files : List Line
files =
    File p5 1 p5file ∷
    Read [] 12 ∷
    Read (take 1 p5file) 12 ∷
    Read (take 6 p5file) 12 ∷
    Read (take 7 p5file) 12 ∷
    Read (take 12 p5file) 12 ∷
    Read (take 17 p5file) 12 ∷
    Read (take 19 p5file) 12 ∷
    Read (take 26 p5file) 12 ∷
    Read (take 27 p5file) 12 ∷
    Read (set p5file 0 0) 13 ∷
    Read (set p5file 1 0) 13 ∷
    Read (set p5file 7 0) 13 ∷
    Read (set p5file 13 0) 13 ∷
    Read (set p5file 26 0) 13 ∷
    Read (set p5file 2 0) 1 ∷
    Read (set p5file 3 2) 1 ∷
    Read (set p5file 4 0) 2 ∷
    Read (set p5file 4 65) 2 ∷
    Read (set p5file 5 0) 3 ∷
    Read (set p5file 5 3) 3 ∷
    Read (set p5file 6 2) 4 ∷
    Read (set p5file 10 4) 8 ∷
    Read (set p5file 11 3) 8 ∷
    Read (set p5file 15 2) 14 ∷
    Read (set p5file 22 1) 14 ∷
    Read (set p5file 17 3) 15 ∷
    Read (set p5file 18 0) 10 ∷
    Read (set p5file 18 3) 10 ∷
    Read (set p5file 19 1) 11 ∷
    Read (p5file ++ (0 ∷ [])) 16 ∷
    Write p5 1 28 0 ∷
    Write p5 1 27 7 ∷
    Write p5 2 27 4 ∷
    Write (p1 3) 1 200 0 ∷
    []

-- the whole table
abbrev pub table : List Line
table = worked ++ plans ++ uneven ++ rounding ++ scarce ++ kinds ++ scored ++ refused ++ lists ++ hand ++ uneven_hand ++ loaded ++ weighted ++ files ++ weighted_files
