-- Laws of a street's list: where a site stands in it, what the places score, and that an accepted row's list has different sites of 1 to m.
-- Assumes nothing.
use mathlib.Core.Path.{◌≡◌, refl, sym, ap, ◌∙◌}
use mathlib.Core.Bool.{true, false, true≢false}
use mathlib.Core.Logic.{⊎_elim, by_cases}
use mathlib.Core.List.{List, [], ◌∷◌}
use Prim.Native.Nat.{ℕ, zero, suc, ◌+◌, ◌-◌, ◌*◌, ◌≤◌, ◌<◌}
use native.Mathlib.Nat.{eq-zero-or-pos, eq-or-lt_of_le, le_of_suc-le-suc}
use native.Mathlib.Decide.{dec_lt}
use native.Mathlib.Omega.{arith}
use lib.Dec.{eqb}
use lib.ListN.{length, take, drop, length-take}
use lib.Seq.{get_or-take, take-take}
use borrow.Author.Tests.{eq-eqb, ne_eqb}
use Rattle.counting.specs.Lists.{at, has, distinct}
use Rattle.counting.specs.Sites.{Sites}
use Rattle.counting.proofs.Refusals.{when-zero, when-some, unless-yes, first-find}
use Rattle.counting.proofs.Membership.{cond-at, apart}
use Rattle.counting.proofs.Sums.{has-at, has-index}
use Rattle.survey.specs.Town.{Town}
use Rattle.survey.specs.Rows.{row_at, ranked_part, list_of_street, place_at, place_in, place_of, score_at, shortest_of, shortest}
use Rattle.survey.specs.Accepted.{SoundRow, SoundScores}
use Rattle.survey.proofs.Places.{place_in-at, place-some, scores-fall, ranked-sites}
use Rattle.counting.proofs.Listed.{has-take}

-- ---- places and scores
-- no place is above the length of the list
pub place-most : (L : List ℕ) (a : ℕ) → place_in L a ≤ length L
place-most L a =
    ⊎_elim (λ z. omega arith) (λ p. let (j, l, e, q) = place_in-at L a p in omega arith) (eq-zero-or-pos (place_in L a))

-- a site that stands at an index has a place that is no later
pub place-early : (L : List ℕ) (a i : ℕ) → i < length L → at L i ≡ a → 0 < place_in L a → place_in L a ≤ i + 1
place-early L a i l q p =
    let (j, h, e, before) = first-find (length L) (place_at L a) p in
    let (t, w) = when-some (j + 1) (eqb (at L j) a) (rw e p) in
    let place : place_in L a ≡ j + 1 = sym e ∙ w in
    let missed : i < j → ⊥ =
    λ k. true≢false (sym (eq-eqb (at L i) a q) ∙ when-zero (i + 1) (eqb (at L i) a) (omega arith) (before i k)) in
    by_cases (dec_lt i j) (λ k. absurd (missed k)) (λ k. omega arith)

-- a site among the first p of a list has a place from 1 to p
pub place-among : (L : List ℕ) (a p : ℕ) → has a (take p L) ≡ true → (0 < place_in L a) × (place_in L a ≤ p)
place-among L a p h =
    let (i, l, e) = has-index a (take p L) h in
    let size : length (take p L) ≤ p = omega (arith, length-take p L) in
    let long : length (take p L) ≤ length L = omega (arith, length-take p L) in
    let some : 0 < place_in L a = place-some L a (has-take p a L h) in
    let here : at L i ≡ a = sym (get_or-take p L i 0 (omega arith)) ∙ e in
    (some, omega (arith, place-early L a i (omega arith) here some))

-- a later place has no higher score
pub score-later : (scores : List ℕ) → SoundScores scores → (p r : ℕ) → 0 < p → p ≤ r → score_at scores r ≤ score_at scores p
score-later scores sound p r l h =
    let score : (x : ℕ) → 0 < x → at scores (x - 1) ≡ score_at scores x = λ x k. unless-yes (at scores (x - 1)) (eqb x 0) (ne_eqb x 0 (λ e. omega arith)) in
    omega (arith, score p l, score r (omega arith), scores-fall scores sound (p - 1) (r - 1) (omega arith))

-- ---- the ranked part of a row
-- it is the front of the row
pub ranked-front : (row : List ℕ) → take (length (ranked_part row)) row ≡ ranked_part row
ranked-front [] = refl
ranked-front (b ∷ row) =
    cond-at (λ (L : List ℕ). take (length L) (b ∷ row) ≡ L) (eqb b 0) (λ e. refl) (λ e. ap (λ (L : List ℕ). b ∷ L) (ranked-front row))

-- so it is no longer
pub ranked-length : (row : List ℕ) → length (ranked_part row) ≤ length row
ranked-length row = omega (arith, length-take (length (ranked_part row)) row, ap length (ranked-front row))

-- no place in a street's row is above the number of sites
pub place-few : (m : ℕ) (rows : List ℕ) (s a : ℕ) → place_of (row_at m rows s) a ≤ m
place-few m rows s a =
    let row : List ℕ = row_at m rows s in
    omega (arith, place-most (ranked_part row) a, ranked-length row, length-take m (drop (s * m) rows))

-- each of its numbers is above 0
pub ranked-some : (row : List ℕ) (a : ℕ) → has a (ranked_part row) ≡ true → 0 < a
ranked-some row a h =
    ⊎_elim (λ z. absurd (true≢false (sym h ∙ ap (λ (x : ℕ). has x (ranked_part row)) z ∙ ranked-sites row))) (λ p. p) (eq-zero-or-pos a)

module _ (m : ℕ) (row : List ℕ) (sound : SoundRow m row) where
  -- at each of its indices the row has the same site
  pub ranked-at : (i : ℕ) → i < length (ranked_part row) → at (ranked_part row) i ≡ at row i
  ranked-at i l = ap (λ (L : List ℕ). at L i) (sym (ranked-front row)) ∙ get_or-take (length (ranked_part row)) row i 0 l

  -- its numbers are sites of 1 to m
  pub ranked-within : Sites m (ranked_part row)
  ranked-within a h =
      let (i, l, e) = has-index a (ranked_part row) h in
      (ranked-some row a h, omega (arith, ranked-at i l, sound.named i (omega (arith, ranked-length row))))

  -- no site stands in it twice
  pub ranked-apart : distinct (ranked_part row) ≡ true
  ranked-apart = apart (ranked_part row) new
    where
      new : (i : ℕ) → i < length (ranked_part row) → has (at (ranked_part row) i) (take i (ranked_part row)) ≡ false
      new i l =
          let L : List ℕ = ranked_part row in
          let before : take i L ≡ take i row = ap (take i) (sym (ranked-front row)) ∙ take-take i (length L) row (omega arith) in
          let some : 0 < at row i = omega (arith, ranked-at i l, ranked-some row (at L i) (has-at L i l)) in
          ap (λ (x : ℕ). has x (take i L)) (ranked-at i l) ∙ ap (has (at row i)) before ∙ sound.once i (omega (arith, ranked-length row)) some

-- no street's list is shorter than the shortest
shortest-of : (m : ℕ) (rows : List ℕ) (n s : ℕ) → s < n → shortest_of n m rows ≤ length (ranked_part (row_at m rows s))
shortest-of m rows zero s l = absurd (omega arith)
shortest-of m rows (suc n) s l =
    ⊎_elim (λ e. rw e (omega arith)) (λ k. omega (arith, shortest-of m rows n s k)) (eq-or-lt_of_le (le_of_suc-le-suc l))

pub shortest-least : (t : Town) (s : ℕ) → s < t.n → shortest t ≤ length (list_of_street t s)
shortest-least t s l = shortest-of t.m t.rows t.n s l
