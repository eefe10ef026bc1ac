-- A survey that is not refused is sound: `accepted` gives the record of specs/Accepted.
-- Assumes nothing.
use mathlib.Core.Path.{◌≡◌, refl, sym, ◌∙◌}
use mathlib.Core.Logic.{⊎_elim}
use mathlib.Core.Bool.{Bool, true, false, ◌&&◌, true≢false}
use mathlib.Core.List.{List}
use Prim.Native.Nat.{ℕ, ◌*◌, ◌-◌, ◌≤◌, ◌<◌, zero-le}
use native.Mathlib.Nat.{eq-zero-or-pos}
use native.Mathlib.Omega.{arith}
use lib.Dec.{ltb, eqb, lit<}
use lib.ListN.{length, take}
use borrow.Author.Tests.{ltb-false, lt-ltb, le-ltb, eq-eqb, ne_eqb}
use Rattle.counting.specs.Bounds.{top_weight}
use Rattle.counting.specs.Words.{◌when◌, ◌or_else◌}
use Rattle.counting.specs.Lists.{at, has}
use Rattle.counting.proofs.Refusals.{skip, or-zero, when-none, when-zero, unless-none, unless-is, within, exact, first-none, first-zeros}
use Rattle.survey.specs.Town.{Town}
use Rattle.survey.specs.Rows.{row_of}
use Rattle.survey.specs.Refusals.{score_refusal, scores_refusal, weight_refusal, weights_refusal, site_refusal, byte_refusal, row_refusal}
use Rattle.survey.specs.Refusals.{street_refusal, rows_refusal, held_refusal, length_refusal, streets_refusal, sites_refusal, chosen_refusal, survey_refusal}
use Rattle.survey.specs.Accepted.{SoundRow, SoundScores, SoundWeights, Accepted}

and-false : (a b : Bool) → a && b ≡ false → a ≡ true → b ≡ false
and-false true b e t = e
and-false false b e t = absurd (true≢false (sym t))

pub sound-scores : (scores : List ℕ) → scores_refusal scores ≡ 0 → SoundScores scores
sound-scores scores e =
    record {
      top = λ i l. ltb-false _ _ (when-zero 8 _ (lit< tt) (at-score i l).0);
      falling = λ i p l. ltb-false _ _ (and-false _ _ (when-zero 8 _ (lit< tt) (at-score i l).1) (lt-ltb 0 i p));
    }
  where
    at-score : (i : ℕ) → i < length scores → (8 when ltb 1000 (at scores i) ≡ 0) × (8 when (ltb 0 i && ltb (at scores (i - 1)) (at scores i)) ≡ 0)
    at-score i l = or-zero _ _ (first-none (length scores) (score_refusal scores) e i l)

pub sound-weights : (weights : List ℕ) → weights_refusal weights ≡ 0 → SoundWeights weights
sound-weights weights e = record { some = λ s l. (at-weight s l).0; top = λ s l. (at-weight s l).1 }
  where
    at-weight : (s : ℕ) → s < length weights → (1 ≤ at weights s) × (at weights s ≤ top_weight)
    at-weight s l = within 24 (at weights s) 1 top_weight (lit< tt) (first-none (length weights) (λ i. weight_refusal (at weights i)) e s l)

-- a byte that is a site and is not refused
site-sound : (m : ℕ) (ended again : Bool) (b : ℕ) → 0 < b → site_refusal m ended again b ≡ 0 → (ended ≡ false) × (b ≤ m) × (again ≡ false)
site-sound m ended again b p e =
    let tries : ℕ = 9 when ended or_else 10 when ltb m b or_else 11 when again in
    let z : tries ≡ 0 = unless-is tries tries (eqb b 0) (ne_eqb b 0 (λ q. omega arith)) refl ∙ e in
    let (x, y) = or-zero (9 when ended) (10 when ltb m b or_else 11 when again) z in
    let (u, w) = or-zero (10 when ltb m b) (11 when again) y in
    (when-zero 9 ended (lit< tt) x, ltb-false m b (when-zero 10 (ltb m b) (lit< tt) u), when-zero 11 again (lit< tt) w)

pub sound-row : (m : ℕ) (row : List ℕ) → row_refusal m row ≡ 0 → SoundRow m row
sound-row m row e =
    record {
      named = λ j l. named-at j (at row j) (here j l);
      closed = λ j l p. (site-sound m _ _ (at row j) p (here j l)).0;
      once = λ j l p. (site-sound m _ _ (at row j) p (here j l)).2;
    }
  where
    here : (j : ℕ) → j < length row → byte_refusal m row j ≡ 0
    here j l = first-none (length row) (byte_refusal m row) e j l

    named-at : (j b : ℕ) → site_refusal m (has 0 (take j row)) (has b (take j row)) b ≡ 0 → b ≤ m
    named-at j b h = ⊎_elim (λ z. rw z zero-le) (λ p. (site-sound m _ _ b p h).1) (eq-zero-or-pos b)

-- a byte of a row that is 0 or sound is not refused
site-accepted : (m : ℕ) (ended again : Bool) (b : ℕ) → (0 < b → (ended ≡ false) × (b ≤ m) × (again ≡ false)) → site_refusal m ended again b ≡ 0
site-accepted m ended again b h =
    ⊎_elim (λ z. sym (unless-none _ (eqb b 0) (eq-eqb b 0 z)))
    (λ p.
    let (x, y, z) = h p in
    sym (unless-is 0 _ (eqb b 0) (ne_eqb b 0 (λ q. omega arith)) (skip 0 9 ended _ x (skip 0 10 (ltb m b) _ (le-ltb m b y) (when-none 11 again z)))))
    (eq-zero-or-pos b)

-- and a sound row is accepted
pub row-accepted : (m : ℕ) (row : List ℕ) → SoundRow m row → row_refusal m row ≡ 0
row-accepted m row sound =
    first-zeros (length row) (byte_refusal m row) (λ j l. site-accepted m _ _ (at row j) (λ p. (sound.closed j l p, sound.named j l, sound.once j l p)))

module _ (t : Town) (k own : ℕ) (e : survey_refusal t k own ≡ 0) where
  -- the tries behind that of the scores' length, and behind the call's own
  abbrev past-scores : ℕ
  past-scores = length_refusal (length t.weights) t.n or_else length_refusal (length t.rows) (t.n * t.m) or_else held_refusal t

  abbrev past-own : ℕ
  past-own = length_refusal (length t.scores) t.m or_else past-scores

  sites-on : (sites_refusal t.m ≡ 0) × (chosen_refusal k t.m or_else own or_else past-own ≡ 0)
  sites-on = or-zero (sites_refusal t.m) _ (or-zero (streets_refusal t.n) _ e).1

  chosen_on : (chosen_refusal k t.m ≡ 0) × (own or_else past-own ≡ 0)
  chosen_on = or-zero (chosen_refusal k t.m) _ sites-on.1

  scores-on : (length_refusal (length t.scores) t.m ≡ 0) × (past-scores ≡ 0)
  scores-on = or-zero (length_refusal (length t.scores) t.m) _ (or-zero own _ chosen_on.1).1

  weights-on : (length_refusal (length t.weights) t.n ≡ 0) × (length_refusal (length t.rows) (t.n * t.m) or_else held_refusal t ≡ 0)
  weights-on = or-zero (length_refusal (length t.weights) t.n) _ scores-on.1

  rows_on : (length_refusal (length t.rows) (t.n * t.m) ≡ 0) × (held_refusal t ≡ 0)
  rows_on = or-zero (length_refusal (length t.rows) (t.n * t.m)) (held_refusal t) weights-on.1

  -- what the call tried besides refuses nothing either
  pub own-accepted : own ≡ 0
  own-accepted = (or-zero own _ chosen_on.1).0

  -- the number of sites to choose is one of 1 to m
  pub chosen-within : (1 ≤ k) × (k ≤ t.m)
  chosen-within = within 3 k 1 t.m (lit< tt) chosen_on.0

  pub accepted : Accepted t
  accepted =
      let streets = within 1 t.n 1 400 (lit< tt) (or-zero (streets_refusal t.n) _ e).0 in
      let sites = within 2 t.m 1 64 (lit< tt) sites-on.0 in
      let numbers = or-zero (scores_refusal t.scores) _ rows_on.1 in
      let bytes = or-zero (weights_refusal t.weights) (rows_refusal t.n t.m t.rows) numbers.1 in
      record {
        some-street = streets.0;
        few-streets = streets.1;
        some-site = sites.0;
        few-sites = sites.1;
        scores-fit = exact 6 (length t.scores) t.m (lit< tt) scores-on.0;
        weights-fit = exact 6 (length t.weights) t.n (lit< tt) weights-on.0;
        rows_fit = exact 6 (length t.rows) (t.n * t.m) (lit< tt) rows_on.0;
        sound-scores = sound-scores t.scores numbers.0;
        sound-weights = sound-weights t.weights bytes.0;
        sound-rows = λ s l. sound-row t.m (row_of t s) (first-none t.n (street_refusal t.m t.rows) bytes.1 s l);
      }
