-- The worked table: one computed test of all its lines, and from it what each line says as equations of the definitions.
-- Assumes nothing.
use mathlib.Core.Path.{◌≡◌, refl, sym}
use mathlib.Core.Bool.{Bool, true, false, ◌&&◌, true≢false}
use mathlib.Core.List.{List, [], ◌∷◌}
use Prim.Native.Nat.{ℕ, zero, suc}
use native.Mathlib.Nat.{suc-ne-zero}
use lib.Dec.{eqb}
use borrow.Author.Tests.{eqb-true, leb-true}
use Rattle.counting.specs.Words.{◌when◌, ◌unless◌, ◌or_else◌, first_nonzero}
use Rattle.counting.specs.Lists.{count}
use Rattle.counting.specs.Greatest.{seek, greatest}
use Rattle.counting.specs.Buffers.{joined, laid, after}
use Rattle.survey.specs.Town.{Town}
use Rattle.refusals.specs.Inputs.{SurveyInput, plan_of}
use Rattle.refusals.specs.Refusals.{plan_refusal}
use Rattle.plans.specs.Plans.{list_total, free_division, free_sites, plan_total, balanced_division, balanced_sites, plan_of_kind}
use Rattle.division.specs.Shares.{share, less, division_total}
use Rattle.division.specs.Divide.{divide}
use Rattle.balanced_plan.specs.Rounds.{ordered, rounds}
use Rattle.survey_file.specs.Encode.{encode}
use Rattle.survey_file.specs.Decode.{past, file_refusal}
use Rattle.worked_towns.specs.Lines.{Line, OfKind, Fact, Number, Bytes, AtMost, Says, AllSay, Holds, AllHold, same, test, tests, facts, test_lines, blank}
use Rattle.worked_towns.specs.Towns.{p3}
use Rattle.worked_towns.specs.Table.{table}

-- the one fact about all lines, as the checker computes it
all_pass : test_lines table ≡ true
unfolding ◌when◌ ◌unless◌ ◌or_else◌ first_nonzero count seek greatest joined laid share less division_total divide ordered rounds encode past file_refusal
all_pass = refl

-- ---- a fact that passes its test holds
both_true : (a b : Bool) → a && b ≡ true → (a ≡ true) × (b ≡ true)
both_true true b e = (refl, e)
both_true false b e = absurd (true≢false (sym e))

same-means : (list other : List ℕ) → same list other ≡ true → list ≡ other
same-means [] [] e = refl
same-means [] (b ∷ other) e = absurd (true≢false (sym e))
same-means (a ∷ list) [] e = absurd (true≢false (sym e))
same-means (a ∷ list) (b ∷ other) e =
    let (first, rest) = both_true (eqb a b) _ e in
    rw (eqb-true a b first, same-means list other rest)

fact-means : (fact : Fact) → test fact ≡ true → Says fact
fact-means (Number x y) e = eqb-true x y e
fact-means (Bytes a b) e = same-means a b e
fact-means (AtMost x y) e = leb-true x y e

facts-mean : (list : List Fact) → tests list ≡ true → AllSay list
facts-mean [] e = tt
facts-mean (fact ∷ rest) e =
    let (first, others) = both_true (test fact) _ e in
    (fact-means fact first, facts-mean rest others)

lines-mean : (lines : List Line) → test_lines lines ≡ true → AllHold lines
lines-mean [] e = tt
lines-mean (line ∷ lines) e =
    let (first, others) = both_true (tests (facts line)) _ e in
    (facts-mean (facts line) first, lines-mean lines others)

-- what each line of the table says holds
pub all_hold : AllHold table
all_hold = lines-mean table all_pass

-- ---- P3 and P4, without the buffers: where nothing is refused they hold the new bytes
new-bytes : (x : ℕ) (new old : List ℕ) {bytes : List ℕ} → x ≡ 0 → after x new old ≡ bytes → new ≡ bytes
new-bytes zero new old e holds = holds
new-bytes (suc x) new old e holds = absurd (suc-ne-zero x e)

told-total : (x given : ℕ) {total : ℕ} → x ≡ 0 → given when eqb x 0 ≡ total → given ≡ total
unfolding ◌when◌
told-total zero given e told = told
told-total (suc x) given e told = absurd (suc-ne-zero x e)

module _ (i : SurveyInput) where
  abbrev streets-blank : List ℕ
  streets-blank = blank i.town.n

  abbrev sites-blank : List ℕ
  sites-blank = blank i.k

  -- a line of a plan that is not refused
  pub plan-line : (kind total : ℕ) (division chosen : List ℕ) → Holds (OfKind kind i 0 total division chosen)
      → let p = plan_of_kind kind i.town i.k in (p.sites ≡ chosen) × (p.division ≡ division) × (p.reported ≡ total)
  plan-line kind total division chosen (none, (reported, (streets, (sites, end)))) =
      let x : ℕ = plan_refusal (plan_of i.town i.k kind streets-blank sites-blank) in
      (new-bytes x _ sites-blank none sites, new-bytes x _ streets-blank none streets, told-total x _ none reported)

-- P3: sites 3, 1, total 5, street 6 unserved
abbrev town : Town
town = p3.town

pub p3-free : (free_sites town 2 ≡ 3 ∷ 1 ∷ []) × (free_division town (free_sites town 2) ≡ 1 ∷ 1 ∷ 1 ∷ 3 ∷ 3 ∷ 0 ∷ [])
    × (list_total town (free_sites town 2) ≡ 5)
p3-free = plan-line p3 0 _ _ _ all_hold.1.1.1.1.0

-- sites 1, 2 give 6
pub p3-other : (list_total town (1 ∷ 2 ∷ []) ≡ 6)
p3-other = all_hold.1.1.1.1.1.0.1.0

-- P4: sites 1, 2, total 6
pub p4-balanced : (balanced_sites town 2 ≡ 1 ∷ 2 ∷ []) × (balanced_division town (balanced_sites town 2) ≡ 1 ∷ 1 ∷ 1 ∷ 2 ∷ 2 ∷ 2 ∷ [])
    × (plan_total town (balanced_division town (balanced_sites town 2)) ≡ 6)
p4-balanced = plan-line p3 1 _ _ _ all_hold.1.1.1.1.1.1.0
