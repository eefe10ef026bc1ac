-- Laws of the tries that all records share, each way: a try refuses nothing just where what it asks holds.
-- Assumes nothing.
use mathlib.Core.Path.{◌≡◌, refl, sym}
use mathlib.Core.List.{List}
use Prim.Native.Nat.{ℕ, ◌≤◌}
use lib.Dec.{ltb, eqb, lit<}
use lib.ListN.{length}
use borrow.Author.Tests.{ltb-false, le-ltb, eq-eqb}
use Rattle.counting.specs.Words.{◌when◌, ◌unless◌, ◌or_else◌, outside}
use Rattle.counting.proofs.Refusals.{or-zero, or-pass, or-neither, when-zero, when-none, unless-none, exact}
use Rattle.survey_file.specs.Decode.{word_at, short_refusal, mark_refusal}

-- two tries that refuse nothing refuse nothing together
pub both : (a b : ℕ) → a ≡ 0 → b ≡ 0 → a or_else b ≡ 0
both a b e i = sym (or-pass 0 a a b refl e (sym i))

-- a number in its range is not refused for it
pub in-range : (x y low high : ℕ) → low ≤ y → y ≤ high → x when outside y low high ≡ 0
in-range x y low high l h = sym (when-none x (outside y low high) (or-neither (ltb y low) (ltb high y) (le-ltb y low l) (le-ltb high y h)))

-- a number that is not above a bound is not refused for it
pub not-above : (x y high : ℕ) → y ≤ high → x when ltb high y ≡ 0
not-above x y high h = sym (when-none x (ltb high y) (le-ltb high y h))

-- a number that is the one that is due is not refused
pub as-due : (x y due : ℕ) → y ≡ due → x unless eqb y due ≡ 0
as-due x y due e = sym (unless-none x (eqb y due) (eq-eqb y due e))

module _ (rest : List ℕ) (size : ℕ) where
  -- 12 is not the answer: so many bytes are there
  pub short-says : short_refusal rest size ≡ 0 → size ≤ length rest
  short-says e = ltb-false (length rest) size (when-zero 12 (ltb (length rest) size) (lit< tt) e)

  -- and the other way round
  pub short-right : size ≤ length rest → short_refusal rest size ≡ 0
  short-right l = sym (when-none 12 (ltb (length rest) size) (le-ltb (length rest) size l))

module _ (due : ℕ) (rest : List ℕ) where
  -- a mark that is not refused is there and is the one that is due
  pub mark-says : mark_refusal due rest ≡ 0 → (2 ≤ length rest) × (word_at rest 0 ≡ due)
  mark-says e =
      let (s, d) = or-zero (short_refusal rest 2) (13 unless eqb (word_at rest 0) due) e in
      (short-says rest 2 s, exact 13 (word_at rest 0) due (lit< tt) d)

  -- and the other way round
  pub mark-right : 2 ≤ length rest → word_at rest 0 ≡ due → mark_refusal due rest ≡ 0
  mark-right l e = both (short_refusal rest 2) (13 unless eqb (word_at rest 0) due) (short-right rest 2 l) (as-due 13 (word_at rest 0) due e)
