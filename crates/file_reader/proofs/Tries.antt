-- Laws of the tries of a record's fields: tests of a number that a call has read, the scores as a loop finds them, and the list of a street.
-- Assumes nothing.
use mathlib.Core.Path.{◌≡◌, sym, ap, ◌∙◌}
use mathlib.Core.Bool.{Bool, true, false}
use mathlib.Core.List.{List}
use Prim.Native.Nat.{ℕ, ◌+◌, ◌-◌, ◌≤◌, ◌<◌}
use native.Mathlib.Nat.{add-sub_cancel_left}
use native.Mathlib.Omega.{arith}
use lib.Dec.{ltb, eqb}
use lib.ListN.{get_or, take, drop}
use borrow.Author.Tests.{lt-ltb, le-ltb, eq-eqb, ne_eqb}
use Rattle.counting.specs.Words.{first_nonzero}
use Rattle.counting.specs.Lists.{at}
use Rattle.counting.specs.Flags.{Flags}
use Rattle.counting.proofs.Refusals.{first-same}
use Rattle.counting.proofs.Sums.{list_of-length, list_of-at}
use Rattle.survey.specs.Refusals.{score_refusal, scores_refusal}
use Rattle.survey_file.specs.Decode.{scores_in, list_in, byte_field}
use Rattle.file_reader.specs.Fields.{score_in, score_field, site_field, list_field}

-- ---- tests of a number x that is known to be a: what the code found of x holds of a
module _ (x a b : ℕ) (is : x ≡ a) where
  -- above a bound
  pub above_from : b < x → ltb b a ≡ true
  above_from l = lt-ltb b a (omega arith)

  -- not above it
  pub within-from : x ≤ b → ltb b a ≡ false
  within-from l = le-ltb b a (omega arith)

  -- below a bound
  pub below-from : x < b → ltb a b ≡ true
  below-from l = lt-ltb a b (omega arith)

  -- not below it
  pub least-from : b ≤ x → ltb a b ≡ false
  least-from l = le-ltb a b (omega arith)

  -- the number that is due
  pub same_from : x ≡ b → eqb a b ≡ true
  same_from e = eq-eqb a b (sym is ∙ e)

  -- another number
  pub other_from : (x ≡ b → ⊥) → eqb a b ≡ false
  other_from h = ne_eqb a b (λ e. h (is ∙ e))

  -- below another number that was read
  pub below_both : (y : ℕ) → y ≡ b → x < y → ltb a b ≡ true
  below_both y e l = lt-ltb a b (omega arith)

  -- not below it
  pub least-both : (y : ℕ) → y ≡ b → y ≤ x → ltb a b ≡ false
  least-both y e l = le-ltb a b (omega arith)

-- the ruleset for tests of numbers that a call has read, beside `chain`
pub ruleset reads = (above_from, within-from, below-from, least-from, same_from, other_from, below_both, least-both)

-- ---- the first refusal of the scores, read one by one
pub scores-read : (m : ℕ) (rest : List ℕ) → first_nonzero m (score_field rest) ≡ scores_refusal (scores_in m rest)
scores-read m rest =
    first-same m (score_field rest) (score_refusal list) here
    ∙ ap (λ (k : ℕ). first_nonzero k (score_refusal list)) (sym (list_of-length m (score_in rest)))
  where
    list : List ℕ
    list = scores_in m rest

    here : (i : ℕ) → i < m → score_field rest i ≡ score_refusal list i
    here i l = rw (list_of-at m (score_in rest) i l, list_of-at m (score_in rest) (i - 1) (omega arith))

-- ---- the refusal of a byte, looked up in the table of bytes seen so far
pub byte-read : (m : ℕ) (list : List ℕ) (seen : List Bool) (j r : ℕ) → Flags seen (take j list) → at list j < 256
    → r ≡ site_field m (get_or seen (at list j) false) (at list j) → r ≡ byte_field m list j
byte-read m list seen j r h l e = e ∙ ap (λ (t : Bool). site_field m t (at list j)) (h.right (at list j) l)

-- ---- the list of a street as it is lent
pub list-lent : (m r : ℕ) (rest : List ℕ) → r ≡ list_field m (take (5 + at rest 4 - 5) (drop 5 rest)) → r ≡ list_field m (list_in rest)
list-lent m r rest e = e ∙ ap (λ (k : ℕ). list_field m (take k (drop 5 rest))) (add-sub_cancel_left 5 (at rest 4))
