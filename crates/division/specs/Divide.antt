-- The best division in given shares, by document 01's tie rule, over any value `v street site`.
-- Assumes nothing.
use Rattle.std.specs.Prelude.{ℕ, zero, suc, ◌+◌, ◌<◌, ◌≡◌, Bool, ◌⊎◌, List, [], ◌∷◌, ltb, length}
use Rattle.counting.specs.Greatest.{greatest}
use Rattle.division.specs.Shares.{share, less, division_total}

-- whether a site has a share left
abbrev pub left : List ℕ → ℕ → Bool
left shares a = ltb 0 (share shares a)

-- the best total in reach once the first street has gone to the site a, where `rest` divides the other streets
abbrev pub reach : (ℕ → ℕ → ℕ) → (List ℕ → List ℕ) → List ℕ → ℕ → ℕ
reach v rest shares a = v 0 a + division_total (λ s. v (suc s)) (rest (less shares a))

-- the best division of k streets: the first street gets the lowest site from which the best total is in reach, then the second, and so on
unfoldable pub divide : (ℕ → ℕ → ℕ) → ℕ → List ℕ → List ℕ
unfolding share less division_total greatest
divide v zero shares = []
divide v (suc k) shares =
    let a : ℕ = greatest (left shares) (reach v (λ e. divide (λ s. v (suc s)) k e) shares) (length shares) in
    a ∷ divide (λ s. v (suc s)) k (less shares a)

-- first in dictionary order: at the first street where the two differ the one has the lower site
abbrev pub First : List ℕ → List ℕ → Type 0
First [] other = Unit {0}
First (a ∷ division) [] = ⊥
First (a ∷ division) (b ∷ other) = (a < b) ⊎ ((a ≡ b) × First division other)
