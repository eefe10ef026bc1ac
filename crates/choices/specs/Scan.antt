-- The words for the scan over the sites that finds the choice of a round.
-- Assumes nothing.
use Rattle.std.specs.Prelude.{◌≡◌, Bool, true, false, not, ◌&&◌, List, ℕ, suc, ◌≤◌, ◌<◌, Option, Some, None, ltb, get_or}
use Rattle.choices.specs.declared.Found.{Found}

-- whether a site is not flagged; 0 is no site
abbrev pub unflagged : List Bool → ℕ → Bool
unflagged flags a = ltb 0 a && not (get_or flags a false)

-- a site with its worth, unless it is taken
abbrev pub offered : ℕ → ℕ → Bool → Option Found
offered site worth true = None
offered site worth false = Some (record { site = site; worth = worth })

-- what sites are compared by: any comes before none
abbrev pub rank_of : Option Found → ℕ
rank_of None = 0
rank_of (Some found) = suc found.worth

-- the number of the site, 0 where there is none
abbrev pub site_of : Option Found → ℕ
site_of None = 0
site_of (Some found) = found.site

-- the better of two, the first on a tie
pub record Better (best site result : Option Found) : Type 0 where
  pub up : rank_of best < rank_of site → result ≡ site
  pub keep : rank_of site ≤ rank_of best → result ≡ best
