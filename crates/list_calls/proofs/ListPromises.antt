-- The promises of the total and the divisions of a list of sites, from what the tries and the engine gave.
-- Assumes nothing.
use mathlib.Core.Path.{◌≡◌, ◌∙◌}
use mathlib.Core.Bool.{true, false≢true}
use mathlib.Core.List.{List}
use Prim.Native.Nat.{ℕ}
use Rattle.std.specs.Prelude.{Result, Ok, Err}
use Rattle.std.specs.Result.{IsErrAnd}
use Rattle.counting.specs.Buffers.{after}
use Rattle.survey.specs.Town.{Town}
use Rattle.plans.specs.Best.{BestDivision}
use Rattle.plans.specs.Unweighted.{Ones, plain_total, plain_plan_total, plain_division}
use Rattle.plans.proofs.Unweighted.{total-plain, division-plain}
use Rattle.plans.specs.Plans.{list_total, free_division, plan_total, balanced_division}
use Rattle.balanced_results.specs.Shareable.{Shareable}
use Rattle.balanced_results.proofs.BestDivisions.{best-division}
use Rattle.refusals.specs.Inputs.{ListInput, DivisionInput}
use Rattle.refusals.specs.Refusals.{listed_refusal, list_total_refusal, free_division_refusal, balanced_division_refusal}
use Rattle.refusals.proofs.Listed.{list-sites, list-apart, listed, balanced-division-listed}
use Rattle.call_answers.specs.declared.Refusal.{Refusal}
use Rattle.call_answers.specs.Answers.{Tried, Told, number_of, accepts, total}
use Rattle.call_answers.proofs.Answers.{told-error, told-total, told_same, after_same, kept-refused, new-accepted}
use Rattle.list_calls.specs.Calls.{ListTotalled, FreeDivided, BalancedDivided}

-- the total of a list that is not refused, with every weight 1
list-plain : (t : Town) (sites : List ℕ) (own : ℕ) → Ones t → listed_refusal t sites own ≡ 0 → list_total t sites ≡ plain_total t sites
list-plain t sites own ones z = total-plain t ones sites (λ a h. (list-sites t.m sites (listed t sites own z).list a h).1)

-- ---- the total
pub list-totalled : (i : ListInput) (r : Result ℕ Refusal) → Told r (list_total_refusal i) (list_total i.town i.sites) → ListTotalled i r
list-totalled i r told = record { answer = told; plain = λ ones. told_same (λ z. list-plain i.town i.sites _ ones z) told }

-- ---- the free division
module _ {i : DivisionInput} where
  free-divided : {division : List ℕ} {r : Result ℕ Refusal} → Told r (free_division_refusal i) (list_total i.town i.sites)
      → division ≡ after (free_division_refusal i) (free_division i.town i.sites) i.division → FreeDivided i division r
  free-divided told d =
      record { answer = told; streets = d; plain = λ ones. told_same (λ z. list-plain i.town i.sites _ ones z) told }

  pub free-division-refused : (e : Refusal) → Tried free_division_refusal i (number_of e) → (r : Result ℕ Refusal) → IsErrAnd r (λ y. y ≡ e)
      → FreeDivided i i.division r
  free-division-refused e tried r h = free-divided (told-error e tried r h) (kept-refused e tried _ _)

  pub free-division-given : Tried free_division_refusal i 0 → {division : List ℕ} {t : ℕ} → t ≡ list_total i.town i.sites
      → division ≡ free_division i.town i.sites → FreeDivided i division (Ok t)
  free-division-given tried total d = free-divided (told-total tried total) (new-accepted tried _ _ d)

-- ---- the balanced division
module _ (i : DivisionInput) where
  -- with every weight 1, where it is not refused
  division-same : Ones i.town → balanced_division_refusal i ≡ 0
      → (balanced_division i.town i.sites ≡ plain_division i.town i.sites)
      × (plan_total i.town (balanced_division i.town i.sites) ≡ plain_plan_total i.town (plain_division i.town i.sites))
  division-same ones z =
      let l = listed i.town i.sites _ z in
      division-plain i.town ones i.sites l.called.some (list-sites _ i.sites l.list) (list-apart _ i.sites l.list)

  balanced-divided : {division : List ℕ} {r : Result ℕ Refusal}
      → Told r (balanced_division_refusal i) (plan_total i.town (balanced_division i.town i.sites))
      → division ≡ after (balanced_division_refusal i) (balanced_division i.town i.sites) i.division
      → (accepts r ≡ true → BestDivision i.town i.sites division (total r)) → BalancedDivided i division r
  balanced-divided told d best =
      record {
        answer = told;
        streets = d;
        plain = λ ones. (
          told_same (λ z. (division-same ones z).1) told,
          d ∙ after_same (balanced_division_refusal i) _ _ i.division (λ z. (division-same ones z).0),
        );
        best = best;
      }

module _ {i : DivisionInput} where
  pub balanced-division-refused : (e : Refusal) → Tried balanced_division_refusal i (number_of e) → (r : Result ℕ Refusal) → IsErrAnd r (λ y. y ≡ e)
      → BalancedDivided i i.division r
  balanced-division-refused e tried r h = balanced-divided i (told-error e tried r h) (kept-refused e tried _ _) (none r h)
    where
      none : (r : Result ℕ Refusal) → IsErrAnd r (λ y. y ≡ e) → accepts r ≡ true → BestDivision i.town i.sites i.division (total r)
      none (Ok t) h y = absurd h
      none (Err f) h y = absurd (false≢true y)

  module _ (tried : Tried balanced_division_refusal i 0) where
    -- a list that is not refused can be shared
    pub shareable : Shareable i.town.m i.sites
    shareable =
        let l = balanced-division-listed tried in
        record {
          some = l.called.some;
          few = l.called.few;
          sites = list-sites i.town.m i.sites l.list;
          apart = list-apart i.town.m i.sites l.list;
        }

    pub balanced-division-given : {division : List ℕ} {r : ℕ} → r ≡ plan_total i.town (balanced_division i.town i.sites)
        → division ≡ balanced_division i.town i.sites → BalancedDivided i division (Ok r)
    balanced-division-given total d =
        balanced-divided i (told-total tried total) (new-accepted tried _ _ d)
        (λ y. rw (d, total) (best-division i.town i.sites shareable))
