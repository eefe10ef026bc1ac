-- What the functions that print a plan ask for.
-- Assumes nothing.
use Rattle.std.specs.Prelude.{ℕ, ◌*◌, ◌≤◌, ◌≡◌, List, length, take}
use Rattle.counting.specs.Bounds.{most_streets, most_sites, most_rows}
use Rattle.survey.specs.Town.{Town, town_of}
use Rattle.survey.specs.declared.Survey.{Survey}
use Rattle.survey.specs.Refusals.{kind_refusal, survey_refusal}
use Rattle.refusals.specs.Inputs.{PlanInput}

-- a town with k sites to choose and a kind of plan, of which nothing is refused
pub record SurveyAsked (t : Town) (k kind : ℕ) : Type 0 where
  pub sound : survey_refusal t k (kind_refusal kind) ≡ 0

-- the same with the plan's two buffers, of the right lengths
pub record PlanAsked (i : PlanInput) : Type 0 where
  pub survey : SurveyAsked i.town i.k i.kind
  pub streets : length i.division ≡ i.town.n
  pub sites : length i.chosen ≡ i.k

-- the listing of a plan whose sizes are those of a survey, with a row of m bytes for each of its streets
pub record ListingAsked (m : ℕ) (rows sites division : List ℕ) : Type 0 where
  pub few-sites : m ≤ most_sites
  pub few-chosen : length sites ≤ most_sites
  pub few-streets : length division ≤ most_streets
  pub rows-there : length division * m ≤ length rows

-- a survey as a program holds it
abbrev pub survey_held : ℕ → ℕ → ℕ → ℕ → List ℕ → List ℕ → List ℕ → Survey
survey_held n m k kind scores weights rows = record { n = n; m = m; k = k; kind = kind; scores = scores; weights = weights; rows = rows }

-- its town: the first m numbers of the score buffer, the first n bytes of the weight buffer and the first n times m bytes of the row buffer count
abbrev pub town_held : Survey → Town
town_held s = town_of s.n s.m (take s.m s.scores) (take s.n s.weights) (take (s.n * s.m) s.rows)

-- one of which nothing is refused
pub record SurveyHeld (s : Survey) : Type 0 where
  pub asked : SurveyAsked (town_held s) s.k s.kind
  pub scores-long : length s.scores ≡ most_sites
  pub weights-long : length s.weights ≡ most_streets
  pub rows_long : length s.rows ≡ most_rows
