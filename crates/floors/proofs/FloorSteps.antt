-- Laws of the floor's functions: one street more, what a round is sure of, and how much it adds at most.
-- Assumes nothing.
use mathlib.Core.Path.{◌≡◌, ap, ◌∙◌}
use mathlib.Mathlib.Data.Bool.Basic.{dichotomy}
use mathlib.Core.Logic.{⊎_elim}
use mathlib.Core.List.{List}
use Prim.Native.Nat.{ℕ, ◌+◌, ◌-◌, ◌*◌, ◌≤◌, ◌<◌, min}
use native.Mathlib.Nat.{le_antisymm, mul-le-mul}
use native.Mathlib.Numerals.{add-one}
use native.Mathlib.Omega.{arith}
use lib.Dec.{leb}
use lib.ListN.{length}
use borrow.Author.Tests.{le-leb, lt-leb}
use Rattle.counting.specs.Bounds.{most_streets, top_score, most_total}
use Rattle.counting.specs.Words.{sum_of}
use Rattle.counting.proofs.Refusals.{when-yes, when-none}
use Rattle.counting.proofs.Sums.{sum_of-next, sum-end}
use Rattle.survey.specs.Rows.{row_at, ranked_part, score_at, shortest_of}
use Rattle.survey.specs.Accepted.{SoundScores}
use Rattle.survey.proofs.Places.{score-bound}
use Rattle.shares.specs.Rounds.{round_share}
use Rattle.balanced_plan.specs.Floor.{ceil, depth, sure, added, floor}

-- the shortest list with one street more
pub shortest-next : (m : ℕ) (rows : List ℕ) (s x y z : ℕ) → x ≡ shortest_of s m rows → y ≡ length (ranked_part (row_at m rows s)) → z ≡ min x y
    → z ≡ shortest_of (s + 1) m rows
shortest-next m rows s x y z e f g = rw (add-one s) (g ∙ ap (λ (u : ℕ). min u y) e ∙ ap (min (shortest_of s m rows)) f)

-- and at the end that of all
pub shortest-end : (n m : ℕ) (rows : List ℕ) (s x : ℕ) → n ≤ s → s ≤ n → x ≡ shortest_of s m rows → x ≡ shortest_of n m rows
shortest-end n m rows s x a b e = rw (le_antisymm b a) at e

module _ (score : ℕ → ℕ) (t m k i r : ℕ) (e : r ≡ ceil (m - i) (k - i)) where
  -- the place that was computed is the round's
  place_is : i + r ≡ depth m k i
  place_is = ap (λ (x : ℕ). i + x) e

  -- a round whose place some list does not reach is sure of nothing
  pub sure-none : t < i + r → 0 ≡ sure score t m k i
  sure-none l = rw place_is at (when-none (score (i + r)) (leb (i + r) t) (lt-leb (i + r) t l))

  -- one whose place every list reaches is sure of its score
  pub sure-score : (x : ℕ) → i + r ≤ t → x ≡ score (i + r) → x ≡ sure score t m k i
  sure-score x l f = rw place_is at (f ∙ when-yes (score (i + r)) (leb (i + r) t) (le-leb (i + r) t l))

-- what a round adds: its share of at most 400 streets, with a score of at most 1,000 for each
pub added_is : (scores : List ℕ) (n t m k i share x : ℕ) → SoundScores scores → n ≤ most_streets → (share ≡ round_share n k i) × (share ≤ n)
    → x ≡ sure (score_at scores) t m k i → (share * x ≡ added (round_share n k) (score_at scores) t m k i) × (share * x ≤ most_total)
added_is scores n t m k i share x sound few (d, most) e =
    let p : ℕ = depth m k i in
    let score : ℕ = score_at scores p in
    let low : x ≤ top_score =
    ⊎_elim (λ o. omega (arith, when-none score (leb p t) o)) (λ y. omega (arith, when-yes score (leb p t) y, score-bound scores p sound)) (dichotomy (leb p t)) in (
      ap (λ (y : ℕ). y * x) d ∙ ap (λ (y : ℕ). round_share n k i * y) e,
      mul-le-mul {n₁ = share} {m₁ = x} {n₂ = 400} {m₂ = 1000} (omega arith) low,
    )

-- the sum with one round more
pub sum_more : (f : ℕ → ℕ) (i x y : ℕ) → x ≡ sum_of i f → y ≡ f i → x + y ≡ sum_of (i + 1) f
sum_more f i x y e g = omega (arith, sum_of-next i f)

-- and at the end the floor, by the shortest list that was found
pub floor-end : (q score : ℕ → ℕ) (t least m k i x : ℕ) → t ≡ least → k ≤ i → i ≤ k → x ≡ sum_of i (added q score t m k)
    → x ≡ floor q score least m k
floor-end q score t least m k i x e a b h = sum-end (added q score least m k) i k x a b (rw e at h)
