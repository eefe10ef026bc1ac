-- What the engine of the balanced rounds holds and walks: for each site a line of all streets in the site's order, and the state that
-- passes from round to round.
-- Assumes nothing.
use Rattle.std.specs.Prelude.{◌≡◌, true, false, List, ℕ, ◌+◌, ◌*◌, ◌≤◌, ◌<◌, length, take, replicate}
use Rattle.counting.specs.Bounds.{most_streets, most_sites}
use Rattle.counting.specs.Lists.{at, only}
use Rattle.counting.specs.Flags.{Flags}
use Rattle.survey.specs.Rows.{row_at}
use Rattle.balanced_plan.specs.Rounds as plan
use Rattle.balanced_rounds.specs.declared.State.{State}

-- the first q streets of a line that are free
abbrev pub picked : List ℕ → ℕ → List ℕ → List ℕ
picked line q division = take q (only (plan.free division) line)

-- the lines are the sites' orders by a key
abbrev pub Orders : (ℕ → ℕ → ℕ) → ℕ → ℕ → List ℕ → Type 0
Orders key n m orders = (a : ℕ) → a ≤ m → row_at n orders a ≡ plan.ordered (key a) (λ s. true) n

-- a line of streets of a division
pub record Line (line division : List ℕ) : Type 0 where
  pub streets : (i : ℕ) → i < length line → at line i < length division
  pub few : length division ≤ most_streets

-- lines of n streets for the sites 0 to m
pub record Lines (n m : ℕ) (orders : List ℕ) : Type 0 where
  pub size : length orders ≡ (m + 1) * n
  pub streets : (i : ℕ) → i < length orders → at orders i < n

-- values that never rise along a line
abbrev pub Falls : (ℕ → ℕ) → List ℕ → Type 0
Falls v line = (i j : ℕ) → i ≤ j → j < length line → v (at line j) ≤ v (at line i)

-- nor along the line of any site
abbrev pub Falling : (ℕ → ℕ → ℕ) → ℕ → ℕ → List ℕ → Type 0
Falling v n m orders = (a : ℕ) → a ≤ m → Falls (λ s. v s a) (row_at n orders a)

-- one street more of a walk, by its value and its site: a free one is counted, and another is passed
pub record Stepped (value site left total left' total' : ℕ) : Type 0 where
  pub counted : site ≡ 0 → (left' + 1 ≡ left) × (total' ≡ total + value)
  pub passed : (site ≡ 0 → ⊥) → (left' ≡ left) × (total' ≡ total)

-- the plan's state that an engine's state stands for
abbrev pub state_of : ℕ → State → plan.State
state_of n state = record { chosen = take state.count state.chosen; division = take n state.division }

-- the state before the first round
abbrev pub empty_state : State
empty_state = record { chosen = replicate most_sites 0; count = 0; flags = replicate 256 false; division = replicate most_streets 0 }

-- the state's arrays have their lengths, and its flags are those of its sites
pub record WellFormed (state : State) : Type 0 where
  pub chosen-size : length state.chosen ≡ most_sites
  pub division-size : length state.division ≡ most_streets
  pub flags : Flags state.flags (take state.count state.chosen)
