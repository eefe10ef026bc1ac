-- The words of the engine's contracts for a division on its way to the best one. In the field's terms, prices are dual values of the
-- transportation problem, and a street that is tight for a site is an arc of reduced cost 0. D and E are divisions, c shares, d prices.
-- Assumes nothing.
use Rattle.std.specs.Prelude.{◌≡◌, List, ℕ, ◌+◌, ◌≤◌, ◌<◌, eqb, length}
use Rattle.counting.specs.Words.{one}
use Rattle.counting.specs.Lists.{at, count}
use Rattle.division.specs.Shares.{share, InShares, division_total}

-- the prices d hold for a division in the shares c: no street gains, after prices, by a move to a site that has a share
abbrev pub Priced : (ℕ → ℕ → ℕ) → (ℕ → ℕ) → List ℕ → List ℕ → Type 0
Priced v d c D = (t : ℕ) → t < length D → (b : ℕ) → 0 < share c b → d (at D t) + v t b ≤ d b + v t (at D t)

-- the street t is tight for the site b: the move of it there neither gains nor loses, after prices
abbrev pub Tight : (ℕ → ℕ → ℕ) → (ℕ → ℕ) → List ℕ → ℕ → ℕ → Type 0
Tight v d D t b = d (at D t) + v t b ≡ d b + v t (at D t)

-- on the way from D to E: the site y has a street too many, and a has one too few
abbrev pub Over : List ℕ → List ℕ → ℕ → ℕ → Type 0
Over D E a y = (z : ℕ) → count E z + one (eqb a z) ≡ count D z + one (eqb y z)

-- two divisions agree on the streets before t
abbrev pub Agree : List ℕ → List ℕ → ℕ → Type 0
Agree D E t = (u : ℕ) → u < t → at E u ≡ at D u

-- no division that is in the shares, and totals what D does, has a lower site at the first street where they differ, if that is before s
abbrev pub FirstTo : (ℕ → ℕ → ℕ) → List ℕ → List ℕ → ℕ → Type 0
FirstTo v c D s = (E : List ℕ) → InShares E c → division_total v E ≡ division_total v D → (t : ℕ) → t < s → Agree D E t → at D t ≤ at E t
