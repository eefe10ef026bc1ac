-- Laws of the answer of reading one record: what the mark decides, and what a record that was read tells.
-- Assumes nothing.
use mathlib.Core.Path.{◌≡◌, refl, sym, ap, subst, ◌∙◌}
use mathlib.Core.Bool.{Bool, true, false, cond}
use mathlib.Core.List.{List}
use Prim.Native.Nat.{ℕ, zero, suc, ◌+◌, ◌*◌, ◌≤◌, ◌<◌}
use native.Mathlib.Omega.{arith}
use lib.Dec.{ltb, eqb, lit<}
use lib.ListN.{length}
use borrow.Author.Tests.{lt-ltb, le-ltb, eq-eqb, ne_eqb, ltb-false}
use Rattle.std.specs.Prelude.{Result, Err}
use Rattle.counting.specs.Words.{◌when◌, ◌unless◌}
use Rattle.counting.specs.Lists.{at}
use Rattle.counting.proofs.Refusals.{or-stop, or-pass, or-zero, refuse, skip, unless-yes, unless-none, when-zero}
use Rattle.call_answers.specs.declared.Refusal.{Refusal}
use Rattle.call_answers.specs.Answers.{number_of}
use Rattle.survey_file.specs.Encode.{town_mark, scores_mark, weights_mark, street_mark, end_mark}
use Rattle.survey_file.specs.Decode.{word_at, short_refusal, mark_refusal, town_fields, scores_fields, weights_fields, street_fields, form_in}
use Rattle.survey_file.specs.declared.Sizes.{Sizes}
use Rattle.survey_file.specs.Sizes.{sizes_in}
use Rattle.file_reader.specs.declared.records.Due.{Due}
use Rattle.file_reader.specs.declared.records.Due.TheVariants as due
use Rattle.file_reader.specs.declared.records.Record.{Record}
use Rattle.file_reader.specs.declared.records.Record.TheVariants as got
use Rattle.file_reader.specs.Answers.{Reads, mark_of, fields_refusal, town_answer, street_answer, fields_of, record_refusal}

-- ---- the bytes that are there where nothing is refused
-- so many bytes as are asked for
long-enough : (rest : List ℕ) (size : ℕ) → short_refusal rest size ≡ 0 → size ≤ length rest
long-enough rest size e = ltb-false (length rest) size (when-zero 12 _ (lit< tt) e)

-- the fixed part of TN or TW
pub town-long : (rest : List ℕ) → 0 ≡ town_fields rest → 7 ≤ length rest
town-long rest z = long-enough rest 7 (or-zero (short_refusal rest 7) _ (sym z)).0

-- all scores of SC
pub scores-long : (m : ℕ) (rest : List ℕ) → 0 ≡ scores_fields m rest → 2 + 2 * m ≤ length rest
scores-long m rest z = long-enough rest (2 + 2 * m) (or-zero (short_refusal rest (2 + 2 * m)) _ (sym z)).0

-- all weights of HW
pub weights-long : (n : ℕ) (rest : List ℕ) → 0 ≡ weights_fields n rest → 2 + n ≤ length rest
weights-long n rest z = long-enough rest (2 + n) (or-zero (short_refusal rest (2 + n)) _ (sym z)).0

-- the fixed part of ST and its list
pub street-long : (m number : ℕ) (rest : List ℕ) → 0 ≡ street_fields m number rest → 5 + at rest 4 ≤ length rest
street-long m number rest z =
    let past-short = (or-zero (short_refusal rest 5) _ (sym z)).1 in
    let past-number = (or-zero (14 unless eqb (word_at rest 2) number) _ past-short).1 in
    let past-length = (or-zero (15 when ltb m (at rest 4)) _ past-number).1 in
    long-enough rest (5 + at rest 4) (or-zero (short_refusal rest (5 + at rest 4)) _ past-length).0

-- ---- what the mark decides
-- a town's mark tells the form
form-told : (new_form : Bool) → eqb (town_mark new_form) (town_mark true) ≡ new_form
form-told false = refl
form-told true = refl

-- a refusal with the number that is due
pub refused : {e : Refusal} {x : ℕ} {fields : Record} → number_of e ≡ x → Reads (Err e) x fields
refused q = record { right-number = q; right-fields = tt }

-- no mark is there
pub no-mark : (d : Due) (rest : List ℕ) → length rest < 2 → 12 ≡ record_refusal d rest
no-mark d rest l =
    let short : 12 ≡ mark_refusal (mark_of d rest) rest = refuse 12 _ _ (lit< tt) (lt-ltb (length rest) 2 l) in
    or-stop 12 _ (fields_refusal d rest) short (λ e. omega arith)

module _ (d : Due) (rest : List ℕ) (mark : ℕ) (there : 2 ≤ length rest) (is : mark ≡ word_at rest 0) where
  -- another mark than the one that is due
  pub other-mark : (mark ≡ mark_of d rest → ⊥) → 13 ≡ record_refusal d rest
  other-mark h =
      let test : eqb (word_at rest 0) (mark_of d rest) ≡ false = ne_eqb _ _ (λ e. h (is ∙ e)) in
      let other : 13 ≡ mark_refusal (mark_of d rest) rest = skip 13 12 _ _ (le-ltb (length rest) 2 there) (unless-yes 13 _ test) in
      or-stop 13 _ (fields_refusal d rest) other (λ e. omega arith)

  -- the mark that is due: the fields decide
  pub due-mark : (k : Due) {r : Result Record Refusal} → d ≡ k → mark ≡ mark_of k rest → Reads r (fields_refusal k rest) (fields_of k rest)
      → Reads r (record_refusal d rest) (fields_of d rest)
  due-mark k {r} same e given =
      let test : eqb (word_at rest 0) (mark_of k rest) ≡ true = eq-eqb _ _ (sym is ∙ e) in
      let quiet : 0 ≡ mark_refusal (mark_of k rest) rest = skip 0 12 _ _ (le-ltb (length rest) 2 there) (unless-none 13 _ test) in
      let fields : fields_refusal k rest ≡ record_refusal k rest = or-pass _ 0 (mark_refusal (mark_of k rest) rest) _ quiet refl refl in
      let due : Reads r (record_refusal k rest) (fields_of k rest) =
      record { right-number = given.right-number ∙ fields; right-fields = given.right-fields }
      in
      subst (λ (d' : Due). Reads r (record_refusal d' rest) (fields_of d' rest)) (sym same) due

  -- one of the two marks of a town, where a town is due
  pub town-mark : (new_form : Bool) {r : Result Record Refusal} → d ≡ due.Town → mark ≡ town_mark new_form
      → Reads r (town_fields rest) (town_answer new_form rest) → Reads r (record_refusal d rest) (fields_of d rest)
  unfolding mark_of
  town-mark new_form {r} same e given =
      let form : form_in rest ≡ new_form = ap (λ (x : ℕ). eqb x (town_mark true)) (sym is ∙ e) ∙ form-told new_form in
      due-mark due.Town same (e ∙ ap town_mark (sym form)) (subst (λ (b : Bool). Reads r (town_fields rest) (town_answer b rest)) (sym form) given)

-- the case of the due record that a mark is for, as a number
abbrev case_for : ℕ → ℕ
case_for mark =
    cond (eqb mark (town_mark false)) 0 (cond (eqb mark (town_mark true)) 0
    (cond (eqb mark scores_mark) 1 (cond (eqb mark weights_mark) 2 (cond (eqb mark street_mark) 3 4))))

-- a record that is due has the case of a number
abbrev pub Case : ℕ → Due → Type 0
Case zero d = d ≡ due.Town
Case (suc zero) d = (m : ℕ) × (d ≡ due.Scores m)
Case (suc (suc zero)) d = (n : ℕ) × (d ≡ due.Weights n)
Case (suc (suc (suc zero))) d = (m : ℕ) × ((number : ℕ) × (d ≡ due.Street m number))
Case (suc (suc (suc (suc x)))) d = d ≡ due.End

-- both marks of a town are for a town
town-case : (new_form : Bool) → Case (case_for (town_mark new_form)) due.Town
town-case false = refl
town-case true = refl

-- it is the case of the record that the mark is due for
case-is : (d : Due) (rest : List ℕ) → Case (case_for (mark_of d rest)) d
unfolding mark_of
case-is due.Town rest = town-case (form_in rest)
case-is (due.Scores m) rest = (m, refl)
case-is (due.Weights n) rest = (n, refl)
case-is (due.Street m number) rest = (m, (number, refl))
case-is due.End rest = refl

-- a mark of another record than the one that is due
pub other-due : (d : Due) (rest : List ℕ) (mark known : ℕ) → mark ≡ known → (Case (case_for known) d → ⊥) → mark ≡ mark_of d rest → ⊥
other-due d rest mark known e none q =
    let same : mark_of d rest ≡ known = sym q ∙ e in
    none (subst (λ (x : ℕ). Case (case_for x) d) same (case-is d rest))

-- a mark of no record
pub unknown-mark : (d : Due) (rest : List ℕ) (mark : ℕ) → (mark ≡ town_mark false → ⊥) → (mark ≡ town_mark true → ⊥) → (mark ≡ scores_mark → ⊥)
    → (mark ≡ weights_mark → ⊥) → (mark ≡ street_mark → ⊥) → (mark ≡ end_mark → ⊥) → mark ≡ mark_of d rest → ⊥
unfolding mark_of
unknown-mark due.Town rest mark old new s w l n e = neither (form_in rest) e
  where
    neither : (new_form : Bool) → mark ≡ town_mark new_form → ⊥
    neither false = old
    neither true = new
unknown-mark (due.Scores m) rest mark old new s w l n e = s e
unknown-mark (due.Weights streets) rest mark old new s w l n e = w e
unknown-mark (due.Street m number) rest mark old new s w l n e = l e
unknown-mark due.End rest mark old new s w l n e = n e

-- ---- what a record that was read tells
-- the sizes in it, and in others those of no town
abbrev none : Sizes
none = record { n = 0; m = 0; k = 0; kind = 0; new_form = false }

abbrev sizes-part : Record → Sizes
sizes-part (got.Town sizes) = sizes
sizes-part got.Scores = none
sizes-part got.Weights = none
sizes-part (got.Street size) = none
sizes-part got.End = none

-- the length of a list in it
abbrev size-part : Record → ℕ
size-part (got.Town sizes) = 0
size-part got.Scores = 0
size-part got.Weights = 0
size-part (got.Street size) = size
size-part got.End = 0

-- the sizes of a town
pub town-part : (rest : List ℕ) (sizes : Sizes) → got.Town sizes ≡ town_answer (form_in rest) rest → sizes ≡ sizes_in rest
town-part rest sizes e = ap sizes-part e

-- the length of the list of a street
pub street-part : (rest : List ℕ) (size : ℕ) → got.Street size ≡ street_answer rest → size ≡ at rest 4
street-part rest size e = ap size-part e
