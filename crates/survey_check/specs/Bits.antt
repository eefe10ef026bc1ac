-- A bit for each site, for a quick check of a row.
-- Assumes nothing.
use Rattle.std.specs.Prelude.{ℕ, zero, suc, ◌-◌, ◌^◌, ◌≡◌, List, ltb, length}
use Rattle.std.specs.Int.Bits.{bit_or}
use Rattle.counting.specs.Words.{◌unless◌, count_of, outside}
use Rattle.counting.specs.Lists.{at}

-- the bit of a byte: each site of 1 to m has its own, and every other byte has none
abbrev pub site_bit : ℕ → ℕ → ℕ
site_bit m b = 2 ^ (b - 1) unless outside b 1 m

-- the table of these bits
pub record SiteBits (m : ℕ) (bits : List ℕ) : Type 0 where
  pub size : length bits ≡ 256
  pub right : (b : ℕ) → at bits b ≡ site_bit m b

-- the bits of the first j bytes of a row, together
unfoldable pub bits_of : List ℕ → List ℕ → ℕ → ℕ
bits_of bits row zero = 0
bits_of bits row (suc j) = bit_or (bits_of bits row j) (at bits (at row j))

-- how many of the first j bytes of a row are not 0
abbrev pub ranked_count : List ℕ → ℕ → ℕ
ranked_count row j = count_of j (λ i. ltb 0 (at row i))
