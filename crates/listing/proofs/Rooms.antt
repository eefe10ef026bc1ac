-- Room for parts that are written one behind the other, from the room for all of them.
-- Assumes nothing.
use mathlib.Core.Path.{◌≡◌, subst}
use mathlib.Core.List.{List, [], ◌∷◌, ◌++◌}
use Prim.Native.Nat.{ℕ, ◌+◌, ◌≤◌, ◌<◌}
use native.Mathlib.Omega.{arith}
use lib.ListN.{length, set, length-append}
use Rattle.counting.specs.Buffers.{Written}
use Rattle.counting.proofs.Laying.{written-size, written_byte, written_next}

-- a text from the start on
pub start-room : (n : ℕ) (x : List ℕ) → length x ≤ n → 0 + length x ≤ n
start-room n x l = omega arith

-- where both fit the first does
pub front-room : (i n : ℕ) (x y : List ℕ) → i + length (x ++ y) ≤ n → i + length x ≤ n
front-room i n x y l = omega (arith, length-append x y)

-- the second fits behind the first
pub next-room : {before : List ℕ} {i : ℕ} {x middle : List ℕ} {j : ℕ} (y : List ℕ) → Written before i x middle j → i + length (x ++ y) ≤ length before
    → j + length y ≤ length middle
next-room {x = x} y first l = omega (arith, first.behind, written-size first, length-append x y)

-- a byte that is stored behind what is written
module _ {before : List ℕ} {i : ℕ} {x middle : List ℕ} {j : ℕ} (y : ℕ) (first : Written before i x middle j)
    (room : i + length (x ++ (y ∷ [])) ≤ length before) where
  pub byte-room : j < length middle
  byte-room = omega (arith, next-room (y ∷ []) first room)

  pub byte-written : Written before i (x ++ (y ∷ [])) (set middle j y) (j + 1)
  byte-written = written_next first (written_byte middle j y byte-room)

-- the same text under another name
pub written_same : {before : List ℕ} {i : ℕ} {x y after : List ℕ} {j : ℕ} → x ≡ y → Written before i x after j → Written before i y after j
written_same {before} {i} {x} {y} {after} {j} e w = subst (λ (z : List ℕ). Written before i z after j) e w
