-- Laws of a street's row and its list: a sound row is its ranked part and zeros, its ranked part is a list that a record may hold, and a list
-- with zeros behind it is a row that is accepted.
-- Assumes nothing.
use mathlib.Core.Path.{◌≡◌, refl, sym, ap, ◌∙◌}
use mathlib.Core.Bool.{Bool, true, false, ◌||◌, true≢false}
use mathlib.Core.Logic.{by_cases, ⊎_elim}
use mathlib.Core.List.{List, [], ◌∷◌, ◌++◌}
use Prim.Native.Nat.{ℕ, zero, suc, ◌+◌, ◌-◌, ◌≤◌, ◌<◌, suc-le-suc}
use native.Mathlib.Nat.{eq-zero-or-pos}
use native.Mathlib.Decide.{dec_lt}
use native.Mathlib.Omega.{arith}
use lib.Dec.{ltb, eqb, lit<}
use lib.ListN.{length, take, replicate, length-append, length-replicate, get_or-replicate, get_or-append}
use lib.Seq.{ext_get_or, length-take-le, take-append-le, get_or-take, get_or-append-add}
use borrow.Author.Tests.{eqb-true, eq-eqb, ne_eqb}
use Rattle.counting.specs.Words.{◌when◌, ◌or_else◌, first_nonzero, outside}
use Rattle.counting.specs.Lists.{at, has}
use Rattle.counting.proofs.Refusals.{or-zero, when-zero, when-none, within, unless-none, unless-is, first-none, first-zeros}
use Rattle.counting.proofs.Membership.{cond-at, has-none}
use Rattle.counting.proofs.Sums.{has-at, at-past}
use Rattle.survey.specs.Town.{Town}
use Rattle.survey.specs.Rows.{ranked_part, row_of, list_of_street}
use Rattle.survey.specs.Refusals.{byte_refusal, row_refusal}
use Rattle.survey.specs.Accepted.{SoundRow, Accepted}
use Rattle.survey.proofs.Places.{ranked-sites}
use Rattle.survey_file.specs.Decode.{byte_field}
use Rattle.survey_file.proofs.Tries.{both, in-range, not-above}
use Rattle.survey_file.proofs.Joined.{row-size}

-- a number that does not stand in a list does not stand in its tail
has-less : (a b : ℕ) (list : List ℕ) → has a (b ∷ list) ≡ false → has a list ≡ false
has-less a b list = go (eqb a b)
  where
    go : (t : Bool) → t || has a list ≡ false → has a list ≡ false
    go true e = absurd (true≢false e)
    go false e = e

-- a list whose every byte is 0 is so many zeros
all-zeros : (list : List ℕ) → ((j : ℕ) → j < length list → at list j ≡ 0) → list ≡ replicate (length list) 0
all-zeros list h =
    ext_get_or 0 list (replicate (length list) 0) (sym (length-replicate (length list) 0)) (λ j l. h j l ∙ sym (get_or-replicate (length list) j 0 0 l))

-- no site stands after a zero
abbrev Closed : List ℕ → Type 0
Closed row = (j : ℕ) → j < length row → 0 < at row j → has 0 (take j row) ≡ false

-- a row without a site after a zero is its ranked part and zeros
pub ranked-zeros : (row : List ℕ) → Closed row → row ≡ ranked_part row ++ replicate (length row - length (ranked_part row)) 0
ranked-zeros [] h = refl
ranked-zeros (b ∷ row) h =
    cond-at (λ (list : List ℕ). b ∷ row ≡ list ++ replicate (suc (length row) - length list) 0) (eqb b 0) (λ e. none (eqb-true b 0 e))
    (λ e. ap (λ (x : List ℕ). b ∷ x) (more (ranked-zeros row (λ j l p. has-less 0 b (take j row) (h (suc j) (suc-le-suc l) p)))))
  where
    zeros : b ≡ 0 → (j : ℕ) → j < suc (length row) → at (b ∷ row) j ≡ 0
    zeros e zero l = e
    zeros e (suc j) l =
        let front : has 0 (b ∷ take j row) ≡ true = rw (eq-eqb 0 b (sym e)) refl in
        ⊎_elim (λ z. z) (λ p. absurd (true≢false (sym front ∙ h (suc j) l p))) (eq-zero-or-pos (at row j))

    none : b ≡ 0 → b ∷ row ≡ replicate (suc (length row) - 0) 0
    none e =
        let whole : suc (length row) ≡ suc (length row) - 0 = omega arith in
        all-zeros (b ∷ row) (zeros e) ∙ ap (λ (x : ℕ). replicate x 0) whole

    more : row ≡ ranked_part row ++ replicate (length row - length (ranked_part row)) 0
        → row ≡ ranked_part row ++ replicate (suc (length row) - suc (length (ranked_part row))) 0
    more q =
        let back : length row - length (ranked_part row) ≡ suc (length row) - suc (length (ranked_part row)) = omega arith in
        q ∙ ap (λ (x : ℕ). ranked_part row ++ replicate x 0) back

-- a list without a zero is the ranked part of itself with zeros behind it
pub ranked-list : (list : List ℕ) (k : ℕ) → has 0 list ≡ false → ranked_part (list ++ replicate k 0) ≡ list
ranked-list [] zero h = refl
ranked-list [] (suc k) h = refl
ranked-list (b ∷ list) k h =
    let site : eqb b 0 ≡ false = ne_eqb b 0 (λ e. let front : has 0 (b ∷ list) ≡ true = rw (eq-eqb 0 b (sym e)) refl in true≢false (sym front ∙ h)) in
    rw (site, ranked-list list k (has-less 0 b list h)) refl

-- a list that a record may hold: each byte is one of the sites 1 to m, and none stands twice
pub record SoundList (m : ℕ) (list : List ℕ) : Type 0 where
  pub named : (j : ℕ) → j < length list → (1 ≤ at list j) × (at list j ≤ m)
  pub once : (j : ℕ) → j < length list → has (at list j) (take j list) ≡ false

module _ (m : ℕ) (list : List ℕ) where
  -- what a list that is not refused shows
  pub list-says : first_nonzero (length list) (byte_field m list) ≡ 0 → SoundList m list
  list-says e =
      record {
        named = λ j l. within 10 (at list j) 1 m (lit< tt) (here j l).0;
        once = λ j l. when-zero 11 (has (at list j) (take j list)) (lit< tt) (here j l).1;
      }
    where
      here : (j : ℕ) → j < length list → (10 when outside (at list j) 1 m ≡ 0) × (11 when has (at list j) (take j list) ≡ 0)
      here j l = or-zero (10 when outside (at list j) 1 m) (11 when has (at list j) (take j list)) (first-none (length list) (byte_field m list) e j l)

  -- and the other way round
  pub list_right : SoundList m list → first_nonzero (length list) (byte_field m list) ≡ 0
  list_right sound =
      first-zeros (length list) (byte_field m list) (λ j l.
      both _ _ (in-range 10 (at list j) 1 m (sound.named j l).0 (sound.named j l).1)
      (sym (when-none 11 (has (at list j) (take j list)) (sound.once j l))))

  -- it holds no zero
  pub list-sites : SoundList m list → has 0 list ≡ false
  list-sites sound = has-none 0 list (λ j l. ne_eqb (at list j) 0 (λ e. omega (arith, (sound.named j l).0)))

-- the ranked part of a sound row
module _ (m : ℕ) (row : List ℕ) (sound : SoundRow m row) where
  -- the list that is written for the row
  abbrev list : List ℕ
  list = ranked_part row

  -- the row is that list and zeros
  split : row ≡ list ++ replicate (length row - length list) 0
  split = ranked-zeros row sound.closed

  -- it is no longer than the row
  list-short : length list ≤ length row
  list-short =
      let e : length row ≡ length list + length {A = ℕ} (replicate (length row - length list) 0) =
      ap (λ (x : List ℕ). length x) split ∙ length-append list (replicate (length row - length list) 0) in
      omega arith

  -- it has the row's bytes
  same_at : (j : ℕ) → j < length list → at row j ≡ at list j
  same_at j l = ap (λ (x : List ℕ). at x j) split ∙ get_or-append list (replicate (length row - length list) 0) 0 j l

  -- and the row's fronts
  same-front : (j : ℕ) → j < length list → take j row ≡ take j list
  same-front j l = ap (λ (x : List ℕ). take j x) split ∙ take-append-le j list (replicate (length row - length list) 0) (omega arith)

  -- each of its bytes is a site
  site : (j : ℕ) → j < length list → 0 < at list j
  site j l =
      ⊎_elim (λ z. absurd (true≢false (sym (has-at list j l) ∙ ap (λ (x : ℕ). has x list) z ∙ ranked-sites row))) (λ p. p) (eq-zero-or-pos (at list j))

  -- a record may hold it
  list-sound : SoundList m list
  list-sound =
      record {
        named = λ j l. (site j l, rw (same_at j l) at (sound.named j (omega (arith, list-short))));
        once = λ j l.
            ap (λ (x : List ℕ). has (at list j) x) (sym (same-front j l)) ∙ ap (λ (x : ℕ). has x (take j row)) (sym (same_at j l))
            ∙ sound.once j (omega (arith, list-short)) (rw (same_at j l) (site j l));
      }

-- of zeros each is 0, and so is what stands past them
zero-at : (k i : ℕ) → at (replicate k 0) i ≡ 0
zero-at k i = by_cases (dec_lt i k) (get_or-replicate k i 0 0) (λ h. at-past (replicate k 0) i (omega (arith, length-replicate {A = ℕ} k 0)))

-- a list with zeros behind it is a row that is accepted
module _ (m k : ℕ) (list : List ℕ) (sound : SoundList m list) where
  -- the row of the list
  abbrev row : List ℕ
  row = list ++ replicate k 0

  -- the tries of a byte that is not 0
  tries : ℕ → ℕ
  tries j = 9 when has 0 (take j row) or_else 10 when ltb m (at row j) or_else 11 when has (at row j) (take j row)

  -- a zero behind the list
  byte-behind : (j : ℕ) → length list ≤ j → byte_refusal m row j ≡ 0
  unfolding tries
  byte-behind j l =
      let place : length list + (j - length list) ≡ j = omega arith in
      let zero-there : at row j ≡ 0 =
      ap (λ (x : ℕ). at row x) (sym place) ∙ get_or-append-add list (replicate k 0) (j - length list) 0 ∙ zero-at k (j - length list) in
      sym (unless-none (tries j) (eqb (at row j) 0) (eq-eqb (at row j) 0 zero-there))

  -- a site of the list
  byte-within : (j : ℕ) → j < length list → byte_refusal m row j ≡ 0
  unfolding tries
  byte-within j l =
      let here : at row j ≡ at list j = get_or-append list (replicate k 0) 0 j l in
      let front : take j row ≡ take j list = take-append-le j list (replicate k 0) (omega arith) in
      let size : length (take j list) ≡ j = length-take-le j list (omega arith) in
      let open-front : has 0 (take j row) ≡ false =
      ap (λ (x : List ℕ). has 0 x) front
      ∙ has-none 0 (take j list) (λ i h. ne_eqb (at (take j list) i) 0 (λ e.
      omega (arith, get_or-take j list i 0 (omega arith), (sound.named i (omega arith)).0))) in
      let new : has (at row j) (take j row) ≡ false =
      ap (λ (x : ℕ). has x (take j row)) here ∙ ap (λ (x : List ℕ). has (at list j) x) front ∙ sound.once j l in
      let none : tries j ≡ 0 =
      both _ _ (sym (when-none 9 (has 0 (take j row)) open-front))
      (both _ _ (not-above 10 (at row j) m (omega (arith, (sound.named j l).1))) (sym (when-none 11 (has (at row j) (take j row)) new))) in
      sym (unless-is 0 (tries j) (eqb (at row j) 0) (ne_eqb (at row j) 0 (λ e. omega (arith, (sound.named j l).0))) (sym none))

  -- no byte of the row is refused
  pub row-right : row_refusal m row ≡ 0
  row-right = first-zeros (length row) (byte_refusal m row) (λ j l. by_cases (dec_lt j (length list)) (byte-within j) (λ h. byte-behind j (omega arith)))

-- the lists and rows of an accepted survey
module _ {t : Town} (ok : Accepted t) (i : ℕ) (l : i < t.n) where
  -- a row has m bytes
  size : length (row_of t i) ≡ t.m
  size = row-size t.n t.m t.rows ok.rows_fit i l

  -- a list has at most m sites
  pub street-short : length (list_of_street t i) ≤ t.m
  street-short = omega (arith, size, list-short t.m (row_of t i) (ok.sound-rows i l))

  -- a record may hold it
  pub street-sound : SoundList t.m (list_of_street t i)
  street-sound = list-sound t.m (row_of t i) (ok.sound-rows i l)

  -- a row is the list and zeros
  pub street-row : list_of_street t i ++ replicate (t.m - length (list_of_street t i)) 0 ≡ row_of t i
  street-row =
      ap (λ (x : ℕ). list_of_street t i ++ replicate (x - length (list_of_street t i)) 0) (sym size)
      ∙ sym (ranked-zeros (row_of t i) (ok.sound-rows i l).closed)
