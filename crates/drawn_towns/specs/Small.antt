-- The bounds of a small town, which the contracts cite.
-- Assumes nothing.
use Rattle.std.specs.Prelude.{◌≡◌, ◌≤◌, ◌<◌, length}
use Rattle.drawn_towns.specs.declared.Town.{Town}

-- the arrays of a town have their sizes, its numbers are within them, and its list has one site at least and m at most
pub record Small (town : Town) : Type 0 where
  pub some-streets : 0 < town.n
  pub few-streets : town.n ≤ 8
  pub few-sites : town.m ≤ 5
  pub few_bytes : town.len ≤ 40
  pub listed : 0 < town.k
  pub few-listed : town.k ≤ town.m
  pub scores-size : length town.scores ≡ 5
  pub weights-size : length town.weights ≡ 9
  pub few-weights : town.weighed ≤ 9
  pub rows-size : length town.rows ≡ 40
  pub sites-size : length town.sites ≡ 5
