-- The order of the rounds, said of a town: what its key means, that values never rise along it, and that, where all weights are the same, it is the
-- order by place.
-- Assumes nothing.
use Prim.Native.Nat.{ℕ, ◌≤◌, ◌<◌}
use native.Mathlib.Nat.{mul-le-mul_left}
use native.Mathlib.Omega.{arith}
use Rattle.counting.specs.Bounds.{most_value}
use Rattle.counting.specs.Lists.{at}
use Rattle.survey.specs.Town.{Town}
use Rattle.survey.specs.Rows.{score_at, Even, score, value, street_place}
use Rattle.survey.specs.Accepted.{Accepted}
use Rattle.survey.proofs.Lists.{score-later, place-few}
use Rattle.survey.proofs.Places.{score-none, valued-bound}
use Rattle.balanced_plan.specs.Rounds.{place_key}
use Rattle.balanced_plan.specs.Falling.{FallsBy}
use Rattle.balanced_plan.proofs.Keys.{place-falls}
use Rattle.balanced_plan.proofs.CountedKeys.{counted-first, counted-falls}
use Rattle.plans.specs.Plans.{street_key}
use Rattle.plans.specs.Order.{ByCountedScore}

module _ {t : Town} (ok : Accepted t) where
  -- no place is above the number of sites
  few : (s a : ℕ) → street_place t s a ≤ t.m
  few s a = place-few t.m t.rows s a

  -- the key puts the streets in the order by counted score, then by place
  pub by-counted-score : ByCountedScore t
  by-counted-score a s u =
      counted-first (value t) (street_place t) most_value t.m a s u (valued-bound ok s a) (valued-bound ok u a) (few s a) (few u a)

  -- it puts first a street that counts the site for no less
  pub key-falls : (a s u : ℕ) → s < t.n → u < t.n → street_key t a s ≤ street_key t a u → value t u a ≤ value t s a
  key-falls a s u l h =
      counted-falls (value t) (street_place t) most_value t.m a s u (valued-bound ok s a) (valued-bound ok u a) (few s a) (few u a)

  -- the key by place puts first a street that scores it no less
  score-falls : (a s u : ℕ) → place_key (street_place t) t.m a s ≤ place_key (street_place t) t.m a u → score t u a ≤ score t s a
  score-falls a s u =
      place-falls (street_place t) (score_at t.scores) t.m (score-later t.scores ok.sound-scores) (score-none t.scores) a s u (few u a)

  -- so where all weights are the same, values fall with the places
  pub even_falls : Even t.weights → FallsBy (place_key (street_place t) t.m) (value t) t.n t.m
  even_falls even a s u l h k first =
      rw (even u (omega (arith, ok.weights-fit)), even s (omega (arith, ok.weights-fit))) (mul-le-mul_left (at t.weights 0) (score-falls a s u first))
