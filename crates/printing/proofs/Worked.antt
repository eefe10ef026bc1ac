-- What is printed for document 01's P5 and for other worked surveys as files of either form, byte by byte.
-- Assumes nothing.
use mathlib.Core.Path.{◌≡◌, refl}
use mathlib.Core.Bool.{false}
use mathlib.Core.List.{List, [], ◌∷◌, ◌++◌}
use Prim.Native.Nat.{ℕ}
use Rattle.counting.specs.Words.{◌when◌, ◌unless◌, ◌or_else◌, first_nonzero}
use Rattle.counting.specs.Lists.{count}
use Rattle.counting.specs.Greatest.{seek, greatest}
use Rattle.counting.specs.Buffers.{joined}
use Rattle.survey.specs.Town.{plain_town}
use Rattle.division.specs.Shares.{share, less, division_total}
use Rattle.division.specs.Divide.{divide}
use Rattle.balanced_plan.specs.Rounds.{ordered, rounds}
use Rattle.survey_file.specs.Filed.{filed_of}
use Rattle.survey_file.specs.Encode.{encode}
use Rattle.survey_file.specs.Decode.{past, file_refusal}
use Rattle.listing.specs.Listing.{digits, refused_line}
use Rattle.printing.specs.Texts.{plan_text, printed}

-- P5 as a file
abbrev p5 : List ℕ
p5 =
    (0x54 ∷ 0x4E ∷ 2 ∷ 0 ∷ 2 ∷ 2 ∷ 1 ∷ []) ++ (0x53 ∷ 0x43 ∷ 2 ∷ 0 ∷ 1 ∷ 0 ∷ []) ++
    (0x53 ∷ 0x54 ∷ 1 ∷ 0 ∷ 2 ∷ 1 ∷ 2 ∷ []) ++ (0x53 ∷ 0x54 ∷ 2 ∷ 0 ∷ 1 ∷ 1 ∷ []) ++ (0x45 ∷ 0x4E ∷ [])

-- the same in the new form, where street 2 counts twice
abbrev p5-new : List ℕ
p5-new =
    (0x54 ∷ 0x57 ∷ 2 ∷ 0 ∷ 2 ∷ 2 ∷ 1 ∷ []) ++ (0x53 ∷ 0x43 ∷ 2 ∷ 0 ∷ 1 ∷ 0 ∷ []) ++ (0x48 ∷ 0x57 ∷ 1 ∷ 2 ∷ []) ++
    (0x53 ∷ 0x54 ∷ 1 ∷ 0 ∷ 2 ∷ 1 ∷ 2 ∷ []) ++ (0x53 ∷ 0x54 ∷ 2 ∷ 0 ∷ 1 ∷ 1 ∷ []) ++ (0x45 ∷ 0x4E ∷ [])

-- total 3, sites 1 2, street 1 2 2, street 2 1 1
abbrev p5-text : List ℕ
p5-text =
    (116 ∷ 111 ∷ 116 ∷ 97 ∷ 108 ∷ 32 ∷ 51 ∷ 10 ∷ []) ++ (115 ∷ 105 ∷ 116 ∷ 101 ∷ 115 ∷ 32 ∷ 49 ∷ 32 ∷ 50 ∷ 10 ∷ []) ++
    (115 ∷ 116 ∷ 114 ∷ 101 ∷ 101 ∷ 116 ∷ 32 ∷ 49 ∷ 32 ∷ 50 ∷ 32 ∷ 50 ∷ 10 ∷ []) ++
    (115 ∷ 116 ∷ 114 ∷ 101 ∷ 101 ∷ 116 ∷ 32 ∷ 50 ∷ 32 ∷ 49 ∷ 32 ∷ 49 ∷ 10 ∷ [])

-- total 5, and the same plan
abbrev p5-new-text : List ℕ
p5-new-text =
    (116 ∷ 111 ∷ 116 ∷ 97 ∷ 108 ∷ 32 ∷ 53 ∷ 10 ∷ []) ++ (115 ∷ 105 ∷ 116 ∷ 101 ∷ 115 ∷ 32 ∷ 49 ∷ 32 ∷ 50 ∷ 10 ∷ []) ++
    (115 ∷ 116 ∷ 114 ∷ 101 ∷ 101 ∷ 116 ∷ 32 ∷ 49 ∷ 32 ∷ 50 ∷ 32 ∷ 50 ∷ 10 ∷ []) ++
    (115 ∷ 116 ∷ 114 ∷ 101 ∷ 101 ∷ 116 ∷ 32 ∷ 50 ∷ 32 ∷ 49 ∷ 32 ∷ 49 ∷ 10 ∷ [])

-- refused 12
abbrev text-12 : List ℕ
text-12 = 114 ∷ 101 ∷ 102 ∷ 117 ∷ 115 ∷ 101 ∷ 100 ∷ 32 ∷ 49 ∷ 50 ∷ 10 ∷ []

-- P7, balanced, as a file: four streets over three sites
abbrev p7 : List ℕ
p7 = encode (filed_of false (plain_town 4 3 (2 ∷ 1 ∷ 0 ∷ []) (1 ∷ 2 ∷ 3 ∷ 1 ∷ 3 ∷ 2 ∷ 2 ∷ 1 ∷ 0 ∷ 3 ∷ 2 ∷ 1 ∷ [])) 3 1)

-- total 8, sites 1 2 3, street 1 1 1, street 2 1 1, street 3 2 1, street 4 3 1
abbrev p7-text : List ℕ
p7-text =
    (116 ∷ 111 ∷ 116 ∷ 97 ∷ 108 ∷ 32 ∷ 56 ∷ 10 ∷ []) ++ (115 ∷ 105 ∷ 116 ∷ 101 ∷ 115 ∷ 32 ∷ 49 ∷ 32 ∷ 50 ∷ 32 ∷ 51 ∷ 10 ∷ []) ++
    (115 ∷ 116 ∷ 114 ∷ 101 ∷ 101 ∷ 116 ∷ 32 ∷ 49 ∷ 32 ∷ 49 ∷ 32 ∷ 49 ∷ 10 ∷ []) ++
    (115 ∷ 116 ∷ 114 ∷ 101 ∷ 101 ∷ 116 ∷ 32 ∷ 50 ∷ 32 ∷ 49 ∷ 32 ∷ 49 ∷ 10 ∷ []) ++
    (115 ∷ 116 ∷ 114 ∷ 101 ∷ 101 ∷ 116 ∷ 32 ∷ 51 ∷ 32 ∷ 50 ∷ 32 ∷ 49 ∷ 10 ∷ []) ++
    (115 ∷ 116 ∷ 114 ∷ 101 ∷ 101 ∷ 116 ∷ 32 ∷ 52 ∷ 32 ∷ 51 ∷ 32 ∷ 49 ∷ 10 ∷ [])

-- one street over two sites, balanced, as a file
abbrev few : List ℕ
few = encode (filed_of false (plain_town 1 2 (1 ∷ 0 ∷ []) (1 ∷ 2 ∷ [])) 2 1)

-- P8 as a file of a kind, and its listing: total 0, sites 1, street 1, the site and place 0
abbrev p8 : ℕ → List ℕ
p8 kind = encode (filed_of false (plain_town 1 1 (7 ∷ []) (0 ∷ [])) 1 kind)

abbrev p8-text : ℕ → List ℕ
p8-text site =
    (116 ∷ 111 ∷ 116 ∷ 97 ∷ 108 ∷ 32 ∷ 48 ∷ 10 ∷ []) ++ (115 ∷ 105 ∷ 116 ∷ 101 ∷ 115 ∷ 32 ∷ 49 ∷ 10 ∷ []) ++
    (115 ∷ 116 ∷ 114 ∷ 101 ∷ 101 ∷ 116 ∷ 32 ∷ 49 ∷ 32 ∷ site ∷ 32 ∷ 48 ∷ 10 ∷ [])

-- an unserved street has site 0, and a site that is not ranked place 0
pub worked : (printed p5 ≡ p5-text) × (printed p5-new ≡ p5-new-text) × (printed [] ≡ text-12) × (printed p7 ≡ p7-text) × (printed few ≡ refused_line 5)
    × (printed (p8 0) ≡ p8-text 48) × (printed (p8 1) ≡ p8-text 49)
unfolding ◌when◌ ◌unless◌ ◌or_else◌ first_nonzero count seek greatest joined share less division_total divide ordered rounds encode past file_refusal digits plan_text
    printed
worked = (refl, refl, refl, refl, refl, refl, refl)
