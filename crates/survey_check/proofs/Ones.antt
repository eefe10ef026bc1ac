-- Laws of the set bits of numbers: of two numbers together, and of a power of 2.
-- Assumes nothing.
use mathlib.Core.Path.{◌≡◌, refl, sym, ap, ap₂, ◌∙◌}
use Prim.Native.Nat.{ℕ, ◌+◌, ◌*◌, ◌/◌, ◌%◌, ◌^◌, ◌≤◌, ◌<◌, max}
use native.Mathlib.Omega.{arith}
use lib.Arith.{bin_ind, digits_div, digits_mod}
use lib.Bits.{bit_or, or_step}
use lib.Count.{ones, ones_in, ones_step, ones_cat}
use lib.Pow.{pow_pos}

-- the lowest bit of two numbers together, and the bits above it
low_small : (a b : ℕ) → max (a % 2) (b % 2) < 2
low_small a b = omega arith

or-low : (a b : ℕ) → bit_or a b % 2 ≡ max (a % 2) (b % 2)
or-low a b = ap (λ (x : ℕ). x % 2) (or_step a b) ∙ digits_mod (bit_or (a / 2) (b / 2)) (low_small a b)

or-high : (a b : ℕ) → bit_or a b / 2 ≡ bit_or (a / 2) (b / 2)
or-high a b = ap (λ (x : ℕ). x / 2) (or_step a b) ∙ digits_div (bit_or (a / 2) (b / 2)) (low_small a b)

-- three numbers together, in either order
max_assoc : (a b c : ℕ) → max (max a b) c ≡ max a (max b c)
max_assoc a b c = omega arith

pub or_assoc : (a b c : ℕ) → bit_or (bit_or a b) c ≡ bit_or a (bit_or b c)
or_assoc =
    bin_ind (λ (a : ℕ). (b c : ℕ) → bit_or (bit_or a b) c ≡ bit_or a (bit_or b c)) (λ b c. refl)
    (λ a more b c.
    or_step (bit_or a b) c
    ∙ ap₂ (λ (x y : ℕ). bit_or x (c / 2) * 2 + max y (c % 2)) (or-high a b) (or-low a b)
    ∙ ap₂ (λ (x y : ℕ). x * 2 + y) (more (b / 2) (c / 2)) (max_assoc (a % 2) (b % 2) (c % 2))
    ∙ sym (ap₂ (λ (x y : ℕ). bit_or (a / 2) x * 2 + max (a % 2) y) (or-high b c) (or-low b c))
    ∙ sym (or_step a (bit_or b c)))

-- two numbers together have no more set bits than both of them
pub ones-or : (a b : ℕ) → ones (bit_or a b) ≤ ones a + ones b
ones-or =
    bin_ind (λ (a : ℕ). (b : ℕ) → ones (bit_or a b) ≤ ones a + ones b) (λ b. omega arith)
    (λ a more b.
    let all : ones (bit_or a b) ≡ max (a % 2) (b % 2) + ones (bit_or (a / 2) (b / 2)) = ones_step (bit_or a b) ∙ ap₂ (λ (x y : ℕ). x + ones y) (or-low a b) (or-high a b) in
    omega (arith, ones_step a, ones_step b, more (b / 2)))

-- no bit of 0 is set, and one of a power of 2
pub ones-zero : ones 0 ≡ 0
unfolding ones
ones-zero = refl

pub ones-pow : (k : ℕ) → ones (2 ^ k) ≡ 1
unfolding ones ones_in
ones-pow k = let whole : 2 ^ k ≡ 1 * 2 ^ k + 0 = omega arith in ap ones whole ∙ ones_cat k 1 0 (pow_pos k)
