-- The line of a street in the parts in which it is written.
-- Assumes nothing.
use mathlib.Core.Path.{◌≡◌, refl, sym, ap, subst, ◌∙◌}
use mathlib.Core.List.{List, [], ◌∷◌, ◌++◌}
use Prim.Native.Nat.{ℕ, suc, ◌+◌, ◌≤◌, ◌<◌}
use native.Mathlib.Numerals.{add-one}
use lib.ListN.{length, set}
use Rattle.counting.specs.Lists.{at}
use Rattle.counting.specs.Buffers.{joined, Written}
use Rattle.survey.specs.Rows.{row_at, place_of}
use Rattle.listing.specs.Listing.{spaced, line, street_word, street_line}
use Rattle.listing.proofs.Rooms.{front-room, next-room, byte-room, byte-written, written_same}

-- three numbers, and the line that they make
abbrev pub three : ℕ → ℕ → ℕ → List ℕ
three a b c = spaced a ++ spaced b ++ spaced c

abbrev pub three_line : ℕ → ℕ → ℕ → List ℕ
three_line a b c = street_word ++ three a b c ++ (10 ∷ [])

line-three : (a b c : ℕ) → line street_word (a ∷ b ∷ c ∷ []) ≡ three_line a b c
unfolding joined
line-three a b c = refl

module _ (m : ℕ) (rows division : List ℕ) (s place : ℕ) (found : place ≡ place_of (row_at m rows s) (at division s)) where
  street-parts : street_line m rows division s ≡ three_line (s + 1) (at division s) place
  street-parts =
      line-three (suc s) (at division s) (place_of (row_at m rows s) (at division s))
      ∙ ap (λ (x : ℕ). three_line x (at division s) (place_of (row_at m rows s) (at division s))) (sym (add-one s))
      ∙ ap (λ (x : ℕ). three_line (s + 1) (at division s) x) (sym found)

  street-room : (i n : ℕ) → i + length (street_line m rows division s) ≤ n → i + length (three_line (s + 1) (at division s) place) ≤ n
  street-room i n room = subst (λ (x : List ℕ). i + length x ≤ n) street-parts room

  module _ {out : List ℕ} {i : ℕ} (room : i + length (street_line m rows division s) ≤ length out) where
    -- behind the word there is room for the numbers
    pub numbers-room : {middle : List ℕ} {j : ℕ} → Written out i street_word middle j → j + length (three (s + 1) (at division s) place) ≤ length middle
    numbers-room word =
        let numbers : List ℕ = three (s + 1) (at division s) place in
        next-room numbers word (front-room i (length out) (street_word ++ numbers) (10 ∷ []) (street-room i (length out) room))

    -- and behind both for the end, with which they are the line
    pub end-room : {middle : List ℕ} {j : ℕ} → Written out i (street_word ++ three (s + 1) (at division s) place) middle j → j < length middle
    end-room parts = byte-room 10 parts (street-room i (length out) room)

    pub street-written : {middle : List ℕ} {j : ℕ} → Written out i (street_word ++ three (s + 1) (at division s) place) middle j
        → Written out i (street_line m rows division s) (set middle j 10) (j + 1)
    street-written parts = written_same (sym street-parts) (byte-written 10 parts (street-room i (length out) room))
