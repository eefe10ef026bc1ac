-- Laws of the buffers that the two passes are lent, and of the best division's total.
-- Assumes nothing.
use mathlib.Core.Path.{◌≡◌, sym, ◌∙◌}
use mathlib.Core.List.{List, ◌++◌}
use Prim.Native.Nat.{ℕ, ◌+◌, ◌*◌, ◌≤◌}
use native.Mathlib.Nat.{mul-le-mul_right, le_antisymm}
use native.Mathlib.Omega.{arith}
use lib.ListN.{length, take, replicate}
use Rattle.counting.specs.Bounds.{most_width, most_price}
use Rattle.counting.specs.Lists.{at}
use Rattle.counting.proofs.Parts.{front_length, back_is}
use Rattle.division.specs.Prices.{Priced}
use Rattle.division.specs.Shares.{InShares, division_total, share_sum}
use Rattle.division.specs.Divide.{divide}
use Rattle.division.specs.Problem.{Problem}
use Rattle.division.proofs.Counts.{in-length}
use Rattle.division.proofs.Best.{divide-in, divide-most}
use Rattle.division.proofs.Dual.{weak}
use Rattle.chains.specs.Chains.{Buffers}

-- the cells of a table of a row and a column for each of the most sites, and of one of a row more
abbrev pub most_area : ℕ
most_area = most_width * most_width

abbrev pub most_areas : ℕ
most_areas = (most_width + 1) * most_width

-- the tables of at most as many sites are small
pub areas : (w : ℕ) → w ≤ most_width → (w * w ≤ most_area) × ((w + 1) * w ≤ most_areas)
areas w few = (omega (arith, mul-le-mul_right {m = w} {n = most_width} w few), omega (arith, mul-le-mul_right {m = w} {n = most_width} w few))

-- the improving loop's buffers fit
pub buffers : (w : ℕ) (low : List ℕ) → w ≤ most_width → length low ≡ w
    → Buffers w low (take ((w + 1) * w) (replicate most_areas 0)) (take (w * w) (replicate most_area 0))
buffers w low few fits =
    let (area, all) = areas w few in
    record { low_fits = fits; prices-fit = front_length ((w + 1) * w) most_areas all; vias-fit = front_length (w * w) most_area area }

-- prices that prove a division best prove its total to be that of the best division
pub best-total : (v : ℕ → ℕ → ℕ) (d : ℕ → ℕ) (c D : List ℕ) → InShares D c → Priced v d c D → division_total v D ≡ division_total v (divide v (length D) c)
best-total v d c D i p =
    let sum : share_sum c ≡ length D = sym (in-length D c i) in
    le_antisymm (divide-most v (length D) c sum D i) (weak v d c D i p (divide v (length D) c) (divide-in v (length D) c sum))

-- prices in the front of a buffer that came back are as they were left
module _ (w : ℕ) (low rest : List ℕ) (fits : length low ≡ w) where
  pub back-bound : ((a : ℕ) → at low a ≤ most_price) → (a : ℕ) → at (take w (low ++ rest)) a ≤ most_price
  back-bound h a = rw (back_is w low rest fits) (h a)

  pub back-priced : (v : ℕ → ℕ → ℕ) (c D : List ℕ) → Priced v (at low) c D → Priced v (at (take w (low ++ rest))) c D
  back-priced v c D h = rw (back_is w low rest fits) h

-- a problem of as many streets
pub same-problem : {values shares : List ℕ} (D E : List ℕ) → length E ≡ length D → Problem values shares (length D) → Problem values shares (length E)
same-problem D E e h = rw e h

-- the best division of as many streets, and its total
pub given_back : (v : ℕ → ℕ → ℕ) (d : ℕ → ℕ) (c D E F : List ℕ) (t : ℕ) → length E ≡ length D → t ≡ division_total v E → InShares E c → Priced v d c E
    → F ≡ divide v (length E) c → (t ≡ division_total v (divide v (length D) c)) × (F ≡ divide v (length D) c)
given_back v d c D E F t e total i p best = (rw e at (total ∙ best-total v d c E i p), rw e at best)
