-- What the functions that make shares and a first division are given, and what a look over the sites has found.
-- Assumes nothing.
use Rattle.std.specs.Prelude.{◌≡◌, true, List, ℕ, ◌+◌, ◌≤◌, ◌<◌, length, Option, MatchOption}
use Rattle.counting.specs.Bounds.{most_streets}
use Rattle.counting.specs.Lists.{at, distinct}
use Rattle.counting.specs.Sites.{Sites}
use Rattle.shares.specs.Rounds.{round_share}
use Rattle.division.specs.Shares.{shares_of}
use Rattle.division.specs.Problem.{tail}

-- a list of different sites of 1 to m, and shares of which no site has one yet, with site 0 in front
pub record Unshared (n m : ℕ) (sites shares : List ℕ) : Type 0 where
  pub few : n ≤ most_streets
  pub within : Sites m sites
  pub apart : distinct sites ≡ true
  pub size : length shares ≡ m + 1
  pub none : (a : ℕ) → at shares a ≡ 0

-- the shares of a list of sites, each that of the round with its number in the list, behind that of site 0, which has none
pub record Shared (n m : ℕ) (sites shares : List ℕ) : Type 0 where
  pub size : length shares ≡ m + 1
  pub nobody : at shares 0 ≡ 0
  pub right : tail shares ≡ shares_of (round_share n (length sites)) sites m

-- the sites below a are looked at: `best` is one of them that has a share left, and none where none of them has
abbrev pub Seen : List ℕ → ℕ → Option ℕ → Type 0
Seen left a best = MatchOption best ((b : ℕ) → b < a → at left b ≡ 0) (λ site. (site < a) × (0 < at left site))
