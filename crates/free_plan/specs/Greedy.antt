-- The free plan, as document 01 has it: greedy Chamberlin-Courant over any value `v street site`, from any list of sites.
-- Assumes nothing.
use Rattle.std.specs.Prelude.{ℕ, zero, suc, max, Bool, List, [], ◌∷◌, ◌++◌, length}
use Rattle.counting.specs.Words.{◌when◌, first_nonzero, sum_of}
use Rattle.counting.specs.Lists.{at}
use Rattle.counting.specs.Greatest.{greatest, unchosen}

-- the best score that any of the sites gives one street, which gives the site a the score f a
abbrev pub best : (ℕ → ℕ) → List ℕ → ℕ
best f [] = 0
best f (a ∷ sites) = max (f a) (best f sites)

-- the total of a set of sites: over the n streets, the best score that any of them gives
abbrev pub total : (ℕ → ℕ → ℕ) → ℕ → List ℕ → ℕ
total v n sites = sum_of n (λ s. best (v s) sites)

-- the total with one site more: what a round compares, since the greatest total is the greatest rise
abbrev pub total_with : (ℕ → ℕ → ℕ) → ℕ → List ℕ → ℕ → ℕ
total_with v n sites a = total v n (sites ++ (a ∷ []))

-- the choice of a round: the unchosen site of 1 to m that raises the total most, the lowest number on a tie
abbrev pub pick : (ℕ → ℕ → ℕ) → ℕ → ℕ → List ℕ → ℕ
pick v n m sites = greatest (unchosen sites) (total_with v n sites) m

-- the sites after k rounds from a list of sites, in order of choice
abbrev pub greedy : (ℕ → ℕ → ℕ) → ℕ → ℕ → ℕ → List ℕ → List ℕ
greedy v n m zero sites = sites
greedy v n m (suc k) sites = let so : List ℕ = greedy v n m k sites in so ++ (pick v n m so ∷ [])

-- the site at the index j of a street's list, where it is chosen; else 0
abbrev pub chosen_at : (ℕ → Bool) → List ℕ → ℕ → ℕ
chosen_at chosen list j = at list j when chosen (at list j)

-- where a street goes: to the first of its list that is chosen, which is the chosen site with its best place; 0 (unserved) if it ranked none
abbrev pub goes_to : (ℕ → Bool) → List ℕ → ℕ
goes_to chosen list = first_nonzero (length list) (chosen_at chosen list)
