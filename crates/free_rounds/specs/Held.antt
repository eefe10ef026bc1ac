-- What the engine's state and tables hold: the records that its functions' contracts name.
-- Assumes nothing.
use Rattle.std.specs.Prelude.{◌≡◌, false, List, ℕ, ◌+◌, ◌*◌, ◌≤◌, ◌<◌, max, length, take, replicate}
use Rattle.counting.specs.Bounds.{most_streets, most_sites, top_score, top_weight, most_width, most_worth}
use Rattle.counting.specs.Words.{sum_of}
use Rattle.counting.specs.Lists.{at}
use Rattle.counting.specs.Flags.{Flags}
use Rattle.tables.specs.Tables.{site_value}
use Rattle.free_plan.specs.Greedy.{best, total, total_with}
use Rattle.free_rounds.specs.declared.State.{State}

-- the sites chosen so far, in order of choice
abbrev pub sites_of : State → List ℕ
sites_of state = take state.count state.chosen

-- the state in which none is chosen
abbrev pub empty_state : State
empty_state =
    record {
      chosen = replicate most_sites 0;
      count = 0;
      flags = replicate 256 false;
      bests = replicate most_streets 0;
      bounds = replicate most_width most_worth;
    }

-- the state holds the flags of its sites, and for each street the best score that they give it
pub record Held (v : ℕ → ℕ → ℕ) (n : ℕ) (state : State) : Type 0 where
  pub chosen-size : length state.chosen ≡ most_sites
  pub bests-size : length state.bests ≡ most_streets
  pub flags : Flags state.flags (sites_of state)
  pub bests : (s : ℕ) → s < n → at state.bests s ≡ best (v s) (sites_of state)

-- a bound for each of the sites 0, 1, .., 64 of what it raises a total by, where `worth` is the total with a site besides
pub record Bounded (worth : ℕ → ℕ) (so : ℕ) (bounds : List ℕ) : Type 0 where
  pub size : length bounds ≡ most_width
  pub right : (a : ℕ) → a < most_width → worth a ≤ so + at bounds a
  pub small : (a : ℕ) → at bounds a ≤ most_worth

-- the state's bounds are bounds of what the sites raise its total by
abbrev pub Bounds : (ℕ → ℕ → ℕ) → ℕ → State → Type 0
Bounds v n state = Bounded (total_with v n (sites_of state)) (total v n (sites_of state)) state.bounds

-- each score is at most 1,000
abbrev pub Scores : List ℕ → Type 0
Scores scores = (s : ℕ) → at scores s ≤ top_score

-- each weight is at most 99
abbrev pub Weights : List ℕ → Type 0
Weights weights = (s : ℕ) → at weights s ≤ top_weight

-- the streets' bests beside as many values of a site
pub record Beside (bests row : List ℕ) : Type 0 where
  pub size : length row ≡ length bests
  pub few : length bests ≤ most_streets
  pub small-bests : Scores bests
  pub small : Scores row

-- the total over n streets of their bests, by the weights
abbrev pub with_none : (ℕ → ℕ) → ℕ → List ℕ → ℕ
with_none weight n bests = sum_of n (λ s. weight s * at bests s)

-- the same with a site besides, in a table by site
abbrev pub with_site : (ℕ → ℕ) → List ℕ → ℕ → List ℕ → ℕ → ℕ
with_site weight values n bests a = sum_of n (λ s. weight s * max (at bests s) (site_value values n s a))
