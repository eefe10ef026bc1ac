-- The town: what its streets and its survey team hand in, as one record. A further input of a survey is a further field here; the
-- number of sites to choose, the kind of plan and the like belong to the call that asks for a plan.
-- Assumes nothing.
use Rattle.std.specs.Prelude.{ℕ, List, replicate}
use Rattle.survey.specs.declared.Town as code

-- n streets and m sites, the score of each place, the household weight of each street, and the streets' rows of m bytes one behind the other. Streets
-- are counted from 0, sites from 1
pub record Town : Type 0 where
  pub n : ℕ
  pub m : ℕ
  pub scores : List ℕ
  pub weights : List ℕ
  pub rows : List ℕ

-- the town of these sizes and lists: the one place that writes the record
abbrev pub town_of : ℕ → ℕ → List ℕ → List ℕ → List ℕ → Town
town_of n m scores weights rows = record { n = n; m = m; scores = scores; weights = weights; rows = rows }

-- the town that a caller lends
abbrev pub lent : code.Town → Town
lent t = town_of t.n t.m t.scores.now t.weights.now t.rows.now

-- the town of a survey that gives no weights, as an old survey file does: each street has the weight 1
abbrev pub plain_town : ℕ → ℕ → List ℕ → List ℕ → Town
plain_town n m scores rows = town_of n m scores (replicate n 1) rows
