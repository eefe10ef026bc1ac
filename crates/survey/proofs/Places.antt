-- Laws of places, scores and values: where a site has a place, what a list with one site more gives, that scores fall, and how great a value can be.
-- Assumes nothing.
use mathlib.Core.Path.{◌≡◌, refl, sym, ap, ◌∙◌}
use mathlib.Core.Bool.{Bool, true, false, true≢false}
use mathlib.Core.Logic.{◌≢◌, ⊎_elim, by_cases}
use mathlib.Core.List.{List, [], ◌∷◌, ◌++◌}
use Prim.Native.Nat.{ℕ, zero, suc, ◌+◌, ◌-◌, ◌*◌, ◌≤◌, ◌<◌, zero-le}
use native.Mathlib.Nat.{eq-zero-or-pos, eq-or-lt_of_le, mul-le-mul, mul-zero}
use native.Mathlib.Decide.{dec_lt}
use native.Mathlib.Omega.{arith}
use lib.Dec.{eqb}
use lib.ListN.{length, length-append, get_or-append}
use lib.Seq.{get_or_at}
use borrow.Author.Tests.{eq-eqb, ne_eqb, eqb-true, eqb-false}
use Rattle.counting.specs.Bounds.{top_score, most_value}
use Rattle.counting.specs.Words.{◌when◌, ◌unless◌, ◌or_else◌, first_nonzero}
use Rattle.counting.specs.Lists.{at, has}
use Rattle.counting.proofs.Refusals.{or-pass, or-none, or-neither, when-yes, when-none, when-zero, when-some, unless-yes, unless-none, first-none, first_found, first-find, first-same, first-zeros}
use Rattle.counting.proofs.Membership.{cond-at, has-none}
use Rattle.counting.proofs.Sums.{has-at, at-past}
use Rattle.survey.specs.Town.{Town}
use Rattle.survey.specs.Rows.{ranked_part, place_at, place_in, score_at, row_of, list_of_street, street_place, score, value}
use Rattle.survey.specs.Accepted.{SoundScores, Accepted}
use Rattle.survey.proofs.LeastWeights.{weight-bound}

-- a site that does not stand in a list has no place there
pub place_none : (L : List ℕ) (a : ℕ) → has a L ≡ false → place_in L a ≡ 0
place_none L a e =
    first-zeros (length L) (place_at L a) (λ i l. sym (when-none (i + 1) (eqb (at L i) a) (ne_eqb (at L i) a (other i l))))
  where
    other : (i : ℕ) → i < length L → at L i ≡ a → ⊥
    other i l q = true≢false (sym (has-at L i l) ∙ ap (λ (x : ℕ). has x L) q ∙ e)

-- a site that stands in a list has a place there
pub place-some : (L : List ℕ) (a : ℕ) → has a L ≡ true → 0 < place_in L a
place-some L a e = ⊎_elim (λ z. absurd (true≢false (sym e ∙ none z))) (λ p. p) (eq-zero-or-pos (place_in L a))
  where
    none : place_in L a ≡ 0 → has a L ≡ false
    none z = has-none a L (λ i l. when-zero (i + 1) (eqb (at L i) a) (omega arith) (first-none (length L) (place_at L a) z i l))

-- a list with one site more: the places that it had, and the last place for a site that had none
pub place-snoc : (L : List ℕ) (b a : ℕ) → place_in (L ++ (b ∷ [])) a ≡ place_in L a or_else (length L + 1) when eqb b a
unfolding first_nonzero
place-snoc L b a =
    let size : length (L ++ (b ∷ [])) ≡ suc (length L) = omega (arith, length-append L (b ∷ [])) in
    let new : at (L ++ (b ∷ [])) (length L) ≡ b = get_or_at L b [] 0 (length L) refl in
    ap (λ (n : ℕ). first_nonzero n more) size ∙ ap (λ (x : ℕ). x or_else more (length L)) (first-same (length L) more (place_at L a) same)
    ∙ ap (λ (x : ℕ). place_in L a or_else (length L + 1) when eqb x a) new
  where
    more : ℕ → ℕ
    more = place_at (L ++ (b ∷ [])) a

    same : (i : ℕ) → i < length L → more i ≡ place_at L a i
    same i l = ap (λ (x : ℕ). (i + 1) when eqb x a) (get_or-append L (b ∷ []) 0 i l)

module _ (L : List ℕ) (b : ℕ) where
  -- a new site gets the next place, and every other site keeps its own
  pub place-new : has b L ≡ false → place_in (L ++ (b ∷ [])) b ≡ length L + 1
  place-new e =
      place-snoc L b b
      ∙ sym (or-pass (length L + 1) (place_in L b) (place_in L b) _ refl (place_none L b e) (when-yes (length L + 1) (eqb b b) (eq-eqb b b refl)))

  pub place-old : (a : ℕ) → a ≢ b → place_in (L ++ (b ∷ [])) a ≡ place_in L a
  place-old a d =
      let last : ℕ = length L + 1 in
      place-snoc L b a
      ∙ ap (λ (x : ℕ). place_in L a or_else x) (sym (when-none last (eqb b a) (ne_eqb b a (λ e. d (sym e)))))
      ∙ or-none (place_in L a)

-- no place scores 0, the place i + 1 scores what stands at the index i, and no place scores more than the top score
pub score-none : (scores : List ℕ) → score_at scores 0 ≡ 0
score-none scores = sym (unless-none (at scores 0) (eqb 0 0) refl)

pub score-next : (scores : List ℕ) (i : ℕ) → score_at scores (i + 1) ≡ at scores i
score-next scores i =
    let back : i + 1 - 1 ≡ i = omega arith in
    sym (unless-yes (at scores (i + 1 - 1)) (eqb (i + 1) 0) (ne_eqb (i + 1) 0 (λ e. omega arith))) ∙ ap (λ (x : ℕ). at scores x) back

pub score-bound : (scores : List ℕ) (place : ℕ) → SoundScores scores → score_at scores place ≤ top_score
unfolding ◌unless◌
score-bound scores place sound = go (eqb place 0)
  where
    most : (i : ℕ) → at scores i ≤ top_score
    most i = by_cases (dec_lt i (length scores)) (sound.top i) (λ h. rw (at-past scores i (omega arith)) zero-le)

    go : (t : Bool) → (at scores (place - 1) unless t) ≤ top_score
    go true = zero-le
    go false = most (place - 1)

-- a site with a place stands in the list at that place
pub place_in-at : (L : List ℕ) (a : ℕ) → 0 < place_in L a → (j : ℕ) × (j < length L) × (place_in L a ≡ j + 1) × (at L j ≡ a)
place_in-at L a h =
    let (j, l, e, q) = first-find (length L) (place_at L a) h in
    let (t, w) = when-some (j + 1) (eqb (at L j) a) (rw e h) in
    (j, l, sym e ∙ w, eqb-true (at L j) a t)

-- a site has the place where it stands first
pub place-first : (L : List ℕ) (i : ℕ) → i < length L → ((j : ℕ) → j < i → at L j ≡ at L i → ⊥) → place_in L (at L i) ≡ i + 1
place-first L i l new =
    let a = at L i in
    let other : (j : ℕ) → j < i → place_at L a j ≡ 0 = λ j k. sym (when-none (j + 1) (eqb (at L j) a) (ne_eqb (at L j) a (new j k))) in
    let own : i + 1 ≡ place_at L a i = when-yes (i + 1) (eqb a a) (eq-eqb a a refl) in
    sym (first_found i (length L) (place_at L a) (i + 1) l (first-zeros i (place_at L a) other) own (λ z. omega arith))

-- the next place has no higher score
score-falls : (scores : List ℕ) → SoundScores scores → (j : ℕ) → at scores (suc j) ≤ at scores j
score-falls scores sound j =
    let back : suc j - 1 ≡ j = omega arith in
    by_cases (dec_lt (suc j) (length scores)) (λ l. rw back at (sound.falling (suc j) (omega arith) l))
    (λ h. omega (arith, at-past scores (suc j) (omega arith)))

-- a later place has no higher score
pub scores-fall : (scores : List ℕ) → SoundScores scores → (i j : ℕ) → i ≤ j → at scores j ≤ at scores i
scores-fall scores sound i zero l = let e : i ≡ 0 = omega arith in rw e (omega arith)
scores-fall scores sound i (suc j) l =
    ⊎_elim (λ e. rw e (omega arith)) (λ k. omega (arith, score-falls scores sound j, scores-fall scores sound i j (omega arith))) (eq-or-lt_of_le l)

-- what bounds a row bounds its ranked part
pub ranked-bound : (row : List ℕ) (x : ℕ) → ((j : ℕ) → at row j ≤ x) → (j : ℕ) → at (ranked_part row) j ≤ x
ranked-bound [] x h = h
ranked-bound (b ∷ row) x h =
    cond-at (λ (list : List ℕ). (j : ℕ) → at list j ≤ x) (eqb b 0) (λ e j. omega arith) (λ e. more (ranked-bound row x (λ i. h (suc i))))
  where
    more : ((j : ℕ) → at (ranked_part row) j ≤ x) → (j : ℕ) → at (b ∷ ranked_part row) j ≤ x
    more g zero = h zero
    more g (suc j) = g j

-- the ranked part holds no zero
pub ranked-sites : (row : List ℕ) → has 0 (ranked_part row) ≡ false
ranked-sites [] = refl
ranked-sites (b ∷ row) =
    cond-at (λ (L : List ℕ). has 0 L ≡ false) (eqb b 0) (λ e. refl)
    (λ e. or-neither (eqb 0 b) (has 0 (ranked_part row)) (ne_eqb 0 b (λ z. eqb-false b 0 e (sym z))) (ranked-sites row))

-- no score is above the top score, and no value above the greatest weight times that
pub scored-bound : {t : Town} → Accepted t → (s a : ℕ) → score t s a ≤ top_score
scored-bound {t} ok s a = score-bound t.scores (street_place t s a) ok.sound-scores

pub valued-bound : {t : Town} → Accepted t → (s a : ℕ) → value t s a ≤ most_value
valued-bound {t} ok s a = mul-le-mul (weight-bound t.weights ok.sound-weights s) (scored-bound ok s a)

-- the site 0, that is none, has the value 0
pub scored-zero : (t : Town) (s : ℕ) → score t s 0 ≡ 0
scored-zero t s =
    ap (λ (x : ℕ). score_at t.scores x) (place_none (list_of_street t s) 0 (ranked-sites (row_of t s))) ∙ score-none t.scores

pub valued-zero : (t : Town) (s : ℕ) → value t s 0 ≡ 0
valued-zero t s = ap (λ (x : ℕ). at t.weights s * x) (scored-zero t s) ∙ mul-zero (at t.weights s)
