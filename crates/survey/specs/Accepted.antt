-- What holds of an accepted survey, in one record: what a call may rely on once its tries have refused nothing.
-- Assumes nothing.
use Rattle.std.specs.Prelude.{ℕ, ◌*◌, ◌-◌, ◌≤◌, ◌<◌, ◌≡◌, false, List, length, take}
use Rattle.counting.specs.Bounds.{most_streets, most_sites, top_score, top_weight}
use Rattle.counting.specs.Lists.{at, has}
use Rattle.survey.specs.Town.{Town}
use Rattle.survey.specs.Rows.{row_of}

-- of a row: no site above m, none after a zero, none twice
pub record SoundRow (m : ℕ) (row : List ℕ) : Type 0 where
  pub named : (j : ℕ) → j < length row → at row j ≤ m
  pub closed : (j : ℕ) → j < length row → 0 < at row j → has 0 (take j row) ≡ false
  pub once : (j : ℕ) → j < length row → 0 < at row j → has (at row j) (take j row) ≡ false

-- of the scores: none above the top score, none above the one before
pub record SoundScores (scores : List ℕ) : Type 0 where
  pub top : (i : ℕ) → i < length scores → at scores i ≤ top_score
  pub falling : (i : ℕ) → 0 < i → i < length scores → at scores i ≤ at scores (i - 1)

-- of the weights: each is one of 1 to the greatest
pub record SoundWeights (weights : List ℕ) : Type 0 where
  pub some : (s : ℕ) → s < length weights → 1 ≤ at weights s
  pub top : (s : ℕ) → s < length weights → at weights s ≤ top_weight

-- of the town
pub record Accepted (t : Town) : Type 0 where
  pub some-street : 1 ≤ t.n
  pub few-streets : t.n ≤ most_streets
  pub some-site : 1 ≤ t.m
  pub few-sites : t.m ≤ most_sites
  pub scores-fit : length t.scores ≡ t.m
  pub weights-fit : length t.weights ≡ t.n
  pub rows_fit : length t.rows ≡ t.n * t.m
  pub sound-scores : SoundScores t.scores
  pub sound-weights : SoundWeights t.weights
  pub sound-rows : (s : ℕ) → s < t.n → SoundRow t.m (row_of t s)
