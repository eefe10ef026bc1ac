-- A first division for the engine to improve, and what it asks of the sites.
-- Assumes nothing.
use Rattle.std.specs.Prelude.{List, ℕ, ◌≤◌, ◌<◌, length}
use Rattle.division.specs.Shares.{InShares}
use Rattle.division.specs.Problem.{tail}
use Rattle.starts.specs.Given.{Shared}
use Rattle.balanced_results.specs.declared.first.Chooser.{Chooser}
use Rattle.balanced_results.specs.declared.first.Chooser.TheVariants as chooser
use Rattle.balanced_results.specs.Shareable.{Shareable}

-- the shares of n streets over a list of sites, and a division in them
pub record Begun (n m : ℕ) (sites shares division : List ℕ) : Type 0 where
  pub shared : Shared n m sites shares
  pub divided : InShares division (tail shares)

-- ---- who chooses the sites
-- what a list of sites has to be: where the rounds choose them, of 1 to m sites; where the caller does, one over which streets can be divided
abbrev pub Listed : Chooser → ℕ → List ℕ → Type 0
Listed chooser.Rounds m list = (0 < length list) × (length list ≤ m)
Listed chooser.Caller m list = Shareable m list

-- the sites: those of the rounds, or the list as it was
abbrev pub sites_of : Chooser → List ℕ → List ℕ → List ℕ
sites_of chooser.Rounds rounds list = rounds
sites_of chooser.Caller rounds list = list
