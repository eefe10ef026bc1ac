-- Divisions and shares, over any value `v street site`. A division is the list of the streets' sites; shares are the list of the numbers of
-- streets that the sites 1, 2, .., m are to have, 0 for a site that is not chosen. Site 0 has no share.
-- Assumes nothing.
use Rattle.std.specs.Prelude.{ℕ, zero, suc, ◌+◌, ◌*◌, pred, ◌≡◌, cond, List, [], ◌∷◌, eqb, set}
use Rattle.counting.specs.Lists.{at, count}
use Rattle.counting.specs.Buffers.{list_of}

-- the share of a site
unfoldable pub share : List ℕ → ℕ → ℕ
share shares zero = 0
share shares (suc a) = at shares a

-- the shares with one street less for a site
unfoldable pub less : List ℕ → ℕ → List ℕ
less shares zero = shares
less shares (suc a) = set shares a (pred (at shares a))

-- in the shares: each site has its share of the streets
abbrev pub InShares : List ℕ → List ℕ → Type 0
InShares division shares = (a : ℕ) → count division a ≡ share shares a

-- the total of a division: over the streets, the score that each gives its site
unfoldable pub division_total : (ℕ → ℕ → ℕ) → List ℕ → ℕ
division_total v [] = 0
division_total v (a ∷ division) = v 0 a + division_total (λ s. v (suc s)) division

-- the share of a site among chosen ones, where the i-th of them has the share q i; 0 where it is not chosen
abbrev pub share_among : (ℕ → ℕ) → List ℕ → ℕ → ℕ
share_among q [] a = 0
share_among q (b ∷ chosen) a = let more : ℕ = share_among (λ i. q (suc i)) chosen a in cond (eqb b a) (q 0) more

-- the shares of the sites 1 to m
abbrev pub shares_of : (ℕ → ℕ) → List ℕ → ℕ → List ℕ
shares_of q chosen m = list_of m (λ i. share_among q chosen (suc i))

-- over the sites, the sum of share times price
abbrev pub dot : List ℕ → (ℕ → ℕ) → ℕ
dot [] d = 0
dot (x ∷ c) d = x * d 1 + dot c (λ a. d (suc a))

-- the sum of the shares: how many streets they are for
abbrev pub share_sum : List ℕ → ℕ
share_sum c = dot c (λ a. 1)
