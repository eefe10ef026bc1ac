-- Lines of files that give the weights, and of conversions, as document 02's request 2026-06 has them.
-- Assumes nothing.
use Rattle.std.specs.Prelude.{ℕ, true, false, List, [], ◌∷◌, ◌++◌, set, take, drop}
use Rattle.worked_towns.specs.Lines.{Line, weighed, NewFile, Read, Write, WriteNew, Convert, blank}
use Rattle.worked_towns.specs.Towns.{p5, p5file}
use Rattle.worked_towns.specs.Weighted.{p1large, p5with}

-- the weights 1 and 2
abbrev pub weights : List ℕ
weights = 1 ∷ 2 ∷ []

-- the bytes of P5's file behind its first mark up to the streets, and from there on
abbrev pub front : List ℕ
front = take 11 (drop 2 p5file)

abbrev pub streets : List ℕ
streets = drop 13 p5file

-- the record HW
abbrev pub weight_bytes : List ℕ → List ℕ
weight_bytes bytes = 72 ∷ 87 ∷ bytes

-- P5 with these weights as a new file
abbrev pub p5new : List ℕ → List ℕ
p5new bytes = 84 ∷ 87 ∷ front ++ weight_bytes bytes ++ streets

-- P1 with street 4 counted twice as a new file
abbrev pub p1file : List ℕ
p1file =
    84 ∷ 87 ∷ 4 ∷ 0 ∷ 3 ∷ 2 ∷ 0 ∷ 83 ∷ 67 ∷ 2 ∷ 0 ∷ 1 ∷ 0 ∷ 0 ∷ 0 ∷ 72 ∷ 87 ∷ 1 ∷ 1 ∷ 1 ∷ 2 ∷ 83 ∷ 84 ∷ 1 ∷ 0 ∷ 3 ∷ 1 ∷ 2 ∷ 3 ∷
    83 ∷ 84 ∷ 2 ∷ 0 ∷ 3 ∷ 1 ∷ 3 ∷ 2 ∷ 83 ∷ 84 ∷ 3 ∷ 0 ∷ 2 ∷ 2 ∷ 1 ∷ 83 ∷ 84 ∷ 4 ∷ 0 ∷ 3 ∷ 3 ∷ 2 ∷ 1 ∷ 69 ∷ 78 ∷ []

-- new files, cut and damaged: 12 for the bytes of HW, 13 where another mark stands in its place, 24 after 8 and before the streets
abbrev pub new_files : List Line
new_files =
    NewFile (p5with weights) 1 (p5new weights) ∷
    NewFile p5 1 (p5new (1 ∷ 1 ∷ [])) ∷
    NewFile (p1large 2) 0 p1file ∷
    Read (take 1 (p5new weights)) 12 ∷
    Read (take 6 (p5new weights)) 12 ∷
    Read (take 13 (p5new weights)) 12 ∷
    Read (take 14 (p5new weights)) 12 ∷
    Read (take 15 (p5new weights)) 12 ∷
    Read (take 16 (p5new weights)) 12 ∷
    Read (take 17 (p5new weights)) 12 ∷
    Read (take 31 (p5new weights)) 12 ∷
    Read (set (p5new weights) 13 0) 13 ∷
    Read (set (p5new weights) 14 0) 13 ∷
    Read (set (p5new weights) 17 0) 13 ∷
    Read (84 ∷ 87 ∷ front ++ streets) 13 ∷
    Read (84 ∷ 78 ∷ front ++ weight_bytes weights ++ streets) 13 ∷
    Read (84 ∷ 88 ∷ front ++ weight_bytes weights ++ streets) 13 ∷
    Read (p5new (1 ∷ [])) 13 ∷
    Read (p5new (1 ∷ 2 ∷ 3 ∷ [])) 13 ∷
    Read (p5new (99 ∷ 1 ∷ [])) 0 ∷
    Read (p5new (0 ∷ 2 ∷ [])) 24 ∷
    Read (p5new (1 ∷ 0 ∷ [])) 24 ∷
    Read (p5new (100 ∷ 2 ∷ [])) 24 ∷
    Read (p5new (1 ∷ 255 ∷ [])) 24 ∷
    Read (set (p5new (0 ∷ 2 ∷ [])) 11 3) 8 ∷
    Read (set (p5new (0 ∷ 2 ∷ [])) 22 3) 24 ∷
    Read (set (p5new weights) 22 3) 10 ∷
    Read (p5new weights ++ (0 ∷ [])) 16 ∷
    []

-- 25 for an old file that would lose a weight: after every other number but 7
abbrev pub lost : List Line
lost =
    WriteNew (p5with weights) 1 32 0 ∷
    WriteNew (p5with weights) 1 31 7 ∷
    WriteNew (p5with (1 ∷ 100 ∷ [])) 1 32 24 ∷
    WriteNew (p5with (1 ∷ [])) 1 32 6 ∷
    Write (p5with weights) 1 28 25 ∷
    Write (p5with weights) 1 27 25 ∷
    Write (p5with weights) 2 28 4 ∷
    Write (p5with (2 ∷ 1 ∷ [])) 1 0 25 ∷
    Write (p5with (2 ∷ 0 ∷ [])) 1 28 24 ∷
    Write (weighed 2 2 2 (2 ∷ 1 ∷ []) weights (1 ∷ 3 ∷ 1 ∷ 0 ∷ [])) 1 28 10 ∷
    Write (weighed 2 2 2 (2 ∷ 1 ∷ []) weights (1 ∷ 1 ∷ 1 ∷ 0 ∷ [])) 1 28 11 ∷
    Write (weighed 2 2 2 (1 ∷ 2 ∷ []) weights (1 ∷ 2 ∷ 1 ∷ 0 ∷ [])) 1 28 8 ∷
    []

-- the old file of P5 to the new form and back, each to its own form, and bytes behind it that stay
abbrev pub conversions : List Line
conversions =
    Convert p5file true 0 (p5new (1 ∷ 1 ∷ [])) ∷
    Convert (p5new (1 ∷ 1 ∷ [])) false 0 p5file ∷
    Convert p5file false 0 p5file ∷
    Convert (p5new weights) true 0 (p5new weights) ∷
    Convert p5file true 0 (p5new (1 ∷ 1 ∷ []) ++ blank 3) ∷
    Convert p5file true 7 (blank 31) ∷
    Convert p5file false 7 (blank 27) ∷
    Convert (p5new weights) false 25 (blank 28) ∷
    Convert (p5new weights) false 25 (blank 27) ∷
    Convert p1file false 25 (blank 60) ∷
    Convert (set (p5new weights) 22 3) false 10 (blank 28) ∷
    Convert (p5new (2 ∷ 0 ∷ [])) false 24 (blank 28) ∷
    Convert (p5new weights ++ (0 ∷ [])) false 16 (blank 28) ∷
    Convert (84 ∷ 87 ∷ front ++ streets) true 13 (blank 32) ∷
    Convert [] true 12 [] ∷
    []

-- all of them
abbrev pub weighted_files : List Line
weighted_files = new_files ++ lost ++ conversions
