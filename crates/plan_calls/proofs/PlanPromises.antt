-- The promises of the plan, from its answer and what its buffers hold, and of the floor.
-- Assumes nothing.
use mathlib.Core.Path.{◌≡◌, sym, ap, ◌∙◌}
use mathlib.Core.Bool.{true}
use mathlib.Core.List.{List}
use Prim.Native.Nat.{ℕ}
use lib.ListN.{length}
use Rattle.std.specs.Prelude.{Result, Ok}
use Rattle.std.specs.Result.{IsErrAnd}
use Rattle.counting.proofs.Refusals.{or-zero}
use Rattle.survey.specs.Refusals.{share_refusal}
use Rattle.survey.proofs.Sound.{accepted, own-accepted, chosen-within}
use Rattle.survey.proofs.LeastWeights.{smallest}
use Rattle.survey.proofs.ByKind.{kind-free, kind-balanced, kind-one}
use Rattle.plans.specs.Plans.{Plan, free_plan, balanced_plan, plan_of_kind, plan_floor}
use Rattle.plans.specs.Unweighted.{Ones, plain_plan_of_kind}
use Rattle.plans.proofs.Unweighted.{plan-plain, floor-plain}
use Rattle.refusals.specs.Inputs.{SurveyInput, PlanInput}
use Rattle.refusals.specs.Refusals.{plan_refusal, free_plan_refusal, balanced_plan_refusal, floor_refusal}
use Rattle.refusals.proofs.Listed.{plan-fits}
use Rattle.refusals.proofs.ByKind.{plan-free, plan-balanced, plan-other}
use Rattle.call_answers.specs.declared.Refusal.{Refusal}
use Rattle.call_answers.specs.Answers.{Tried, Told, number_of, accepts, total}
use Rattle.call_answers.proofs.Answers.{told-passed, told-due, told-new, told-error, told-total, told_same, after_same, kept-refused, new-accepted}
use Rattle.plan_calls.specs.Good.{GoodFree, GoodBalanced}
use Rattle.plan_calls.specs.Calls.{PlanOutcome, Planned, FloorGiven}
use Rattle.plan_calls.proofs.GoodPlans.{good-free, good-balanced}

-- what an engine gave is a plan
abbrev Made : Plan → ℕ → List ℕ → List ℕ → Type 0
Made p reported division chosen = (reported ≡ p.reported) × (division ≡ p.division) × (chosen ≡ p.sites)

module _ {i : PlanInput} {division chosen : List ℕ} {r : Result ℕ Refusal} where
  -- the same outcome by another name of the number and of the plan
  outcome-as : {x y : ℕ} {p q : Plan} → x ≡ y → p ≡ q → PlanOutcome i x p division chosen r → PlanOutcome i y q division chosen r
  outcome-as e f o = rw (e, f) at o

  -- and by another name that the plan has where nothing is refused
  outcome-same : {x : ℕ} {p q : Plan} → (x ≡ 0 → p ≡ q) → PlanOutcome i x p division chosen r → PlanOutcome i x q division chosen r
  outcome-same {x} h o =
      record {
        answer = told_same (λ z. ap (λ (p : Plan). p.reported) (h z)) o.answer;
        streets = o.streets ∙ after_same x _ _ _ (λ z. ap (λ (p : Plan). p.division) (h z));
        sites = o.sites ∙ after_same x _ _ _ (λ z. ap (λ (p : Plan). p.sites) (h z));
      }

  -- what is said of the plan is said of an accepted outcome
  of-plan : {x : ℕ} {p : Plan} (Good : List ℕ → List ℕ → ℕ → Type 0) → PlanOutcome i x p division chosen r → accepts r ≡ true
      → Good p.division p.sites p.reported → Good division chosen (total r)
  of-plan Good o y good = rw (told-new o.answer y _ _ o.streets, told-new o.answer y _ _ o.sites, told-due o.answer y) good

  -- what is given by the kind is given by its case, and good
  planned : PlanOutcome i (plan_refusal i) (plan_of_kind i.kind i.town i.k) division chosen r → Planned i division chosen r
  planned o =
      record {
        outcome = o;
        free = free;
        balanced = balanced;
        other = λ l. o.answer.right-number ∙ plan-other i l;
        plain = λ ones. outcome-same (unweighted ones) o;
        good-free = good-0;
        good-balanced = good-1;
      }
    where
      free : i.kind ≡ 0 → PlanOutcome i (free_plan_refusal i) (free_plan i.town i.k) division chosen r
      free z = outcome-as (plan-free i z) (kind-free _ _ i.kind z) o

      balanced : i.kind ≡ 1 → PlanOutcome i (balanced_plan_refusal i) (balanced_plan i.town i.k) division chosen r
      balanced z = outcome-as (plan-balanced i z) (kind-balanced _ _ i.kind (kind-one z)) o

      unweighted : Ones i.town → plan_refusal i ≡ 0 → plan_of_kind i.kind i.town i.k ≡ plain_plan_of_kind i.kind i.town i.k
      unweighted ones z =
          let (some, few) = chosen-within i.town i.k _ z in
          plan-plain i.town ones (accepted i.town i.k _ z) i.kind i.k some few

      good-0 : i.kind ≡ 0 → accepts r ≡ true → GoodFree i.town i.k division chosen (total r)
      good-0 z y = of-plan (GoodFree i.town i.k) (free z) y (good-free i.town i.k _ (told-passed (free z).answer y))

      good-1 : i.kind ≡ 1 → accepts r ≡ true → GoodBalanced i.town i.k division chosen (total r)
      good-1 z y =
          let ok = told-passed (balanced z).answer y in
          let enough = (or-zero (share_refusal i.town.n i.k) _ (own-accepted i.town i.k _ ok)).0 in
          of-plan (GoodBalanced i.town i.k) (balanced z) y (good-balanced i.town i.k _ ok enough)

pub plan-refused : {i : PlanInput} (e : Refusal) → Tried plan_refusal i (number_of e) → (r : Result ℕ Refusal) → IsErrAnd r (λ y. y ≡ e)
    → Planned i i.division i.chosen r
plan-refused e tried r h =
    planned (record { answer = told-error e tried r h; streets = kept-refused e tried _ _; sites = kept-refused e tried _ _ })

module _ {i : PlanInput} (tried : Tried plan_refusal i 0) where
  -- what an engine gave for the length of the lent list of sites, if it is the plan of the kind
  given : (p : Plan) → plan_of_kind i.kind i.town (length i.chosen) ≡ p → {division chosen : List ℕ} {reported : ℕ}
      → Made p reported division chosen → Planned i division chosen (Ok reported)
  given p e (t, d, c) =
      let due : p ≡ plan_of_kind i.kind i.town i.k = sym e ∙ ap (plan_of_kind i.kind i.town) (plan-fits tried).1 in
      planned
      (record {
        answer = told-total tried (t ∙ ap (λ (q : Plan). q.reported) due);
        streets = new-accepted tried _ _ (d ∙ ap (λ (q : Plan). q.division) due);
        sites = new-accepted tried _ _ (c ∙ ap (λ (q : Plan). q.sites) due);
      })

  pub free-given : i.kind ≡ 0 → {division chosen : List ℕ} {reported : ℕ}
      → Made (free_plan i.town (length i.chosen)) reported division chosen → Planned i division chosen (Ok reported)
  free-given kind = given _ (kind-free _ _ i.kind kind)

  pub balanced-given : (i.kind ≡ 0 → ⊥) → {division chosen : List ℕ} {reported : ℕ}
      → Made (balanced_plan i.town (length i.chosen)) reported division chosen → Planned i division chosen (Ok reported)
  balanced-given kind = given _ (kind-balanced _ _ i.kind kind)

-- ---- the floor
pub floor-given : (i : SurveyInput) (r : Result ℕ Refusal) → Told r (floor_refusal i) (plan_floor i.town i.k) → FloorGiven i r
floor-given i r told =
    record {
      answer = told;
      plain = λ ones. told_same (λ z. floor-plain i.town ones (accepted i.town i.k _ z).some-street i.k) told;
      factor = λ y. smallest (accepted i.town i.k _ (told-passed told y));
    }
