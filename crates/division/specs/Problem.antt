-- What the passes over a division are lent and leave as it is: the streets' values and the shares, both with site 0 in front. In the field's
-- terms, a transportation problem: each street supplies one, each site demands its share.
-- Assumes nothing.
use Rattle.std.specs.Prelude.{ℕ, ◌*◌, ◌≤◌, ◌<◌, ◌≡◌, List, [], ◌∷◌, length}
use Rattle.counting.specs.Bounds.{most_streets, most_width, most_value}
use Rattle.counting.specs.Lists.{at}

-- a list without its first number: the shares of the sites 1, 2, .. where site 0 stands in front of them
abbrev pub tail : List ℕ → List ℕ
tail [] = []
tail (x ∷ list) = list

-- values of n streets in rows as wide as the shares, and shares of which site 0 has none
pub record Problem (values shares : List ℕ) (n : ℕ) : Type 0 where
  pub size : length values ≡ n * length shares
  pub small : (i : ℕ) → at values i ≤ most_value
  pub nobody : at shares 0 ≡ 0
  pub some-site : 0 < length shares
  pub few-sites : length shares ≤ most_width
  pub few : n ≤ most_streets
