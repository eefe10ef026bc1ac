-- The rounds of the balanced plan, as document 01 has them (Monroe, Algorithm A), over any value `v street site` and any order of the
-- streets by a key `key site street`. A round's share is a function of its number, counted from 0.
-- Assumes nothing.
use Rattle.std.specs.Prelude.{ℕ, zero, suc, ◌+◌, ◌-◌, ◌*◌, Bool, cond, List, [], ◌∷◌, ◌++◌, ltb, eqb, length, take, set, replicate}
use Rattle.counting.specs.Words.{◌or_else◌}
use Rattle.counting.specs.Lists.{at, sum}
use Rattle.counting.specs.Greatest.{greatest, unchosen}

-- a street put into a line behind all whose key is not above its own
abbrev pub insert : (ℕ → ℕ) → ℕ → List ℕ → List ℕ
insert key s [] = s ∷ []
insert key s (t ∷ line) = let more : List ℕ = insert key s line in cond (ltb (key s) (key t)) (s ∷ (t ∷ line)) (t ∷ more)

-- the free ones of the streets 0, 1, .., n - 1, ordered by key, then by number
unfoldable pub ordered : (ℕ → ℕ) → (ℕ → Bool) → ℕ → List ℕ
ordered key free zero = []
ordered key free (suc n) =
    let line : List ℕ = ordered key free n in
    let more : List ℕ = insert key n line in
    cond (free n) more line

-- whether a street is not yet given away: its site is 0
abbrev pub free : List ℕ → ℕ → Bool
free division s = eqb (at division s) 0

-- the streets that a site would take in a round with the share q: the first q of the free ones in the site's order
abbrev pub lot : (ℕ → ℕ → ℕ) → ℕ → List ℕ → ℕ → List ℕ
lot key q division a = take q (ordered (key a) (free division) (length division))

-- the worth of a site: the summed score of these streets
abbrev pub worth : (ℕ → ℕ → ℕ) → (ℕ → ℕ → ℕ) → ℕ → List ℕ → ℕ → ℕ
worth v key q division a = sum (λ s. v s a) (lot key q division a)

-- the division with some streets given to a site
abbrev pub give : ℕ → List ℕ → List ℕ → List ℕ
give a [] division = division
give a (s ∷ streets) division = give a streets (set division s a)

-- the state after some rounds: the sites in order of choice, and for each street its site, 0 while it is free
pub record State : Type 0 where
  pub chosen : List ℕ
  pub division : List ℕ

-- the choice of a round: the unchosen site of 1 to m of greatest worth, the lowest number on a tie
abbrev pub choice : (ℕ → ℕ → ℕ) → (ℕ → ℕ → ℕ) → ℕ → ℕ → State → ℕ
choice v key m q state = greatest (unchosen state.chosen) (worth v key q state.division) m

-- the state once a site has been chosen and has taken its streets
abbrev pub taken : (ℕ → ℕ → ℕ) → ℕ → State → ℕ → State
taken key q state a =
    record {
      chosen = state.chosen ++ (a ∷ []);
      division = give a (lot key q state.division a) state.division;
    }

-- the state after k rounds of n streets over m sites
unfoldable pub rounds : (ℕ → ℕ → ℕ) → (ℕ → ℕ → ℕ) → ℕ → ℕ → (ℕ → ℕ) → ℕ → State
unfolding ordered
rounds v key n m q zero = record { chosen = []; division = replicate n 0 }
rounds v key n m q (suc k) =
    let state : State = rounds v key n m q k in
    taken key (q k) state (choice v key m (q k) state)

-- the key by which document 01 orders streets for a site: the place, unranked after all m places
abbrev pub place_key : (ℕ → ℕ → ℕ) → ℕ → ℕ → ℕ → ℕ
place_key place m a s = place s a or_else suc m

-- the key by which streets with household weights are ordered for a site: by counted score `v`, highest first, then by place. No value is
-- above `most`
abbrev pub counted_key : (ℕ → ℕ → ℕ) → (ℕ → ℕ → ℕ) → ℕ → ℕ → ℕ → ℕ → ℕ
counted_key v place most m a s = (most - v s a) * (m + 2) + place_key place m a s
