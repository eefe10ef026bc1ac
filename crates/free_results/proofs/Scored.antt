-- The free division scores what its sites do: a street's score for the site it goes to is its best score among the chosen sites, so the
-- streets' scores sum to the total of the sites.
-- Assumes nothing.
use mathlib.Core.Path.{◌≡◌, sym, ap, ◌∙◌}
use mathlib.Core.Bool.{true, false, true≢false}
use mathlib.Mathlib.Data.Bool.Basic.{dichotomy}
use mathlib.Core.Logic.{⊎_elim}
use mathlib.Core.List.{List}
use Prim.Native.Nat.{ℕ, ◌+◌, ◌*◌, ◌≤◌, ◌<◌}
use native.Mathlib.Nat.{le_antisymm, eq-zero-or-pos}
use native.Mathlib.Omega.{arith}
use lib.ListN.{length}
use Rattle.counting.specs.Lists.{at, has}
use Rattle.counting.proofs.Refusals.{when-zero, when-some, first-none, first-find}
use Rattle.counting.proofs.Sums.{sum_of-same, has-at, has-index}
use Rattle.survey.specs.Town.{Town}
use Rattle.survey.specs.Rows.{row_of, list_of_street, place_in, score_at, score, value}
use Rattle.survey.specs.Accepted.{SoundScores}
use Rattle.survey.proofs.Places.{place_none, place_in-at, place-first, score-none, score-next, scores-fall, ranked-sites}
use Rattle.free_plan.specs.Greedy.{best, chosen_at, goes_to}
use Rattle.plans.specs.Plans.{list_total, free_division, plan_total}
use Rattle.free_plan.proofs.Weighed.{best-times}
use Rattle.free_plan.proofs.Totals.{best-has, best-le}
use Rattle.division.proofs.Counts.{division_total-sum}

-- a site that has no place in a street's list scores 0
unranked : (scores L : List ℕ) (a : ℕ) → place_in L a ≡ 0 → score_at scores (place_in L a) ≡ 0
unranked scores L a e = ap (λ (x : ℕ). score_at scores x) e ∙ score-none scores

-- a site that has a place scores what that place does
ranked : (scores L : List ℕ) (a j : ℕ) → place_in L a ≡ j + 1 → score_at scores (place_in L a) ≡ at scores j
ranked scores L a j e = ap (λ (x : ℕ). score_at scores x) e ∙ score-next scores j

module _ (L S : List ℕ) (sites : has 0 L ≡ false) where
  -- a site of a street's list that the street passes over is not a chosen one
  passed : (i : ℕ) → i < length L → chosen_at (λ b. has b S) L i ≡ 0 → (a : ℕ) → has a S ≡ true → at L i ≡ a → ⊥
  passed i l e a h q =
      let site : at L i ≡ 0 → ⊥ = λ z. true≢false (sym (has-at L i l) ∙ ap (λ (x : ℕ). has x L) z ∙ sites) in
      true≢false (sym h ∙ ap (λ (x : ℕ). has x S) (sym q) ∙ when-zero (at L i) (has (at L i) S) (omega arith) e)

  -- a street that goes to no site ranked no chosen site
  unserved : goes_to (λ b. has b S) L ≡ 0 → (a : ℕ) → has a S ≡ true → place_in L a ≡ 0
  unserved e a h = ⊎_elim (place_none L a) (λ y. absurd (out (has-index a L y))) (dichotomy (has a L))
    where
      out : (i : ℕ) × (i < length L) × (at L i ≡ a) → ⊥
      out (i, l, q) = passed i l (first-none (length L) (chosen_at (λ b. has b S) L) e i l) a h q

  -- the first chosen site of a street's list scores best of the chosen sites
  first-best : (scores : List ℕ) → SoundScores scores → (i : ℕ) → i < length L → has (at L i) S ≡ true
      → ((j : ℕ) → j < i → chosen_at (λ b. has b S) L j ≡ 0) → score_at scores (place_in L (at L i)) ≡ best (λ a. score_at scores (place_in L a)) S
  first-best scores sound i l h before = le_antisymm (best-has score (at L i) S h) (best-le score (score (at L i)) S bound)
    where
      score : ℕ → ℕ
      score a = score_at scores (place_in L a)

      passed-before : (j : ℕ) → j < i → (a : ℕ) → has a S ≡ true → at L j ≡ a → ⊥
      passed-before j k = passed j (omega arith) (before j k)

      own : score (at L i) ≡ at scores i
      own = ranked scores L (at L i) i (place-first L i l (λ j k. passed-before j k (at L i) h))

      less : (a : ℕ) → has a S ≡ true → (j : ℕ) × (j < length L) × (place_in L a ≡ j + 1) × (at L j ≡ a) → score a ≤ score (at L i)
      less a k (j, m, e, q) =
          let not-before : j < i → ⊥ = λ f. passed-before j f a k q in
          omega (arith, own, ranked scores L a j e, scores-fall scores sound i j (omega arith))

      bound : (a : ℕ) → has a S ≡ true → score a ≤ score (at L i)
      bound a k = ⊎_elim (λ z. omega (arith, unranked scores L a z)) (λ p. less a k (place_in-at L a p)) (eq-zero-or-pos (place_in L a))

-- one street: the site it goes to scores best of the chosen sites
pub goes-best : (scores L S : List ℕ) → SoundScores scores → has 0 L ≡ false
    → score_at scores (place_in L (goes_to (λ a. has a S) L)) ≡ best (λ a. score_at scores (place_in L a)) S
goes-best scores L S sound sites = ⊎_elim none some (eq-zero-or-pos (goes_to (λ a. has a S) L))
  where
    score : ℕ → ℕ
    score a = score_at scores (place_in L a)

    none : goes_to (λ a. has a S) L ≡ 0 → score (goes_to (λ a. has a S) L) ≡ best score S
    none e =
        let least : best score S ≤ 0 = best-le score 0 S (λ a h. omega (arith, unranked scores L a (unserved L S sites e a h))) in
        ap score e ∙ omega (arith, unranked scores L 0 (place_none L 0 sites))

    some : 0 < goes_to (λ a. has a S) L → score (goes_to (λ a. has a S) L) ≡ best score S
    some p =
        let (i, l, e, before) = first-find (length L) (chosen_at (λ a. has a S) L) p in
        let (h, w) = when-some (at L i) (has (at L i) S) (rw e p) in
        ap score (sym e ∙ w) ∙ first-best L S sites scores sound i l h before

-- the streets' scores for the sites they go to sum to the total of the chosen sites
pub served-total : (t : Town) (S : List ℕ) → SoundScores t.scores → plan_total t (free_division t S) ≡ list_total t S
served-total t S sound =
    division_total-sum (value t) t.n (λ s. goes_to (λ a. has a S) (list_of_street t s))
    ∙ sum_of-same t.n _ _ (λ s l.
    ap (λ (x : ℕ). at t.weights s * x) (goes-best t.scores (list_of_street t s) S sound (ranked-sites (row_of t s)))
    ∙ sym (best-times (at t.weights s) (score t s) S))
