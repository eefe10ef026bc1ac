-- What each call is given, in one record: a further input of a call is a further field. A buffer that is lent stands here as it is when the
-- call begins. Each record is written in one place, `.._of`.
-- Assumes nothing.
use Rattle.std.specs.Prelude.{ℕ, Bool, List}
use Rattle.survey.specs.Town.{Town}
use Rattle.loads.specs.Loads.{Loads}
use Rattle.survey_file.specs.Filed.{Filed}

-- a survey with k sites to be chosen: check and floor
pub record SurveyInput : Type 0 where
  pub town : Town
  pub k : ℕ

abbrev pub survey_of : Town → ℕ → SurveyInput
survey_of t k = record { town = t; k = k }

-- one row of m bytes and one site, with the scores and the street's weight
pub record RowInput : Type 0 where
  pub m : ℕ
  pub scores : List ℕ
  pub weight : ℕ
  pub row : List ℕ
  pub site : ℕ

abbrev pub row_input_of : ℕ → List ℕ → ℕ → List ℕ → ℕ → RowInput
row_input_of m scores weight row site = record { m = m; scores = scores; weight = weight; row = row; site = site }

-- a given list of sites: its total
pub record ListInput : Type 0 where
  pub town : Town
  pub sites : List ℕ

abbrev pub list_input_of : Town → List ℕ → ListInput
list_input_of t sites = record { town = t; sites = sites }

-- the same with a buffer for the division over it, free or balanced
pub record DivisionInput : Type 0 where
  pub town : Town
  pub sites : List ℕ
  pub division : List ℕ

abbrev pub division_of : Town → List ℕ → List ℕ → DivisionInput
division_of t sites division = record { town = t; sites = sites; division = division }

-- a plan of k sites of a kind, with a buffer for the division and one for the sites
pub record PlanInput : Type 0 where
  pub town : Town
  pub k : ℕ
  pub kind : ℕ
  pub division : List ℕ
  pub chosen : List ℕ

abbrev pub plan_of : Town → ℕ → ℕ → List ℕ → List ℕ → PlanInput
plan_of t k kind division chosen = record { town = t; k = k; kind = kind; division = division; chosen = chosen }

-- a hand-made plan of k sites of a kind: a site for each street, the total that is claimed, and what the streets bring to their sites
pub record HandInput : Type 0 where
  pub town : Town
  pub k : ℕ
  pub kind : ℕ
  pub division : List ℕ
  pub claimed : ℕ
  pub loads : Loads

abbrev pub hand_of : Town → ℕ → ℕ → List ℕ → ℕ → Loads → HandInput
hand_of t k kind division claimed loads = record { town = t; k = k; kind = kind; division = division; claimed = claimed; loads = loads }

-- what a file is to hold, its form among it, and a buffer for the file
pub record WriteInput : Type 0 where
  pub filed : Filed
  pub file : List ℕ

abbrev pub write_of : Filed → List ℕ → WriteInput
write_of filed file = record { filed = filed; file = file }

-- a file, and buffers for its scores, weights and rows
pub record ReadInput : Type 0 where
  pub file : List ℕ
  pub scores : List ℕ
  pub weights : List ℕ
  pub rows : List ℕ

abbrev pub read_of : List ℕ → List ℕ → List ℕ → List ℕ → ReadInput
read_of file scores weights rows = record { file = file; scores = scores; weights = weights; rows = rows }

-- a file, the form in which it is wanted, and a buffer for that
pub record ConvertInput : Type 0 where
  pub file : List ℕ
  pub wanted : Bool
  pub buffer : List ℕ

abbrev pub convert_of : List ℕ → Bool → List ℕ → ConvertInput
convert_of file wanted buffer = record { file = file; wanted = wanted; buffer = buffer }
