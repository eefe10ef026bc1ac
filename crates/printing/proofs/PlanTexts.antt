-- The text of a plan, from what the planner's calls promise for an accepted survey.
-- Assumes nothing.
use mathlib.Core.Path.{◌≡◌, sym, ap, ◌∙◌}
use mathlib.Core.Bool.{true≢false}
use mathlib.Core.List.{List}
use Prim.Native.Nat.{ℕ, zero, suc, ◌≤◌}
use native.Mathlib.Nat.{suc-ne-zero}
use native.Mathlib.Omega.{arith}
use lib.ListN.{length}
use Rattle.counting.specs.Bounds.{most_streets, most_sites}
use Rattle.counting.specs.Words.{◌when◌, ◌or_else◌}
use Rattle.counting.specs.Buffers.{after}
use Rattle.counting.proofs.Refusals.{or-zero, own-pass, or-none}
use Rattle.survey.specs.Town.{Town}
use Rattle.survey.specs.Refusals.{streets_refusal, sites_refusal, chosen_refusal, survey_refusal}
use Rattle.survey_file.proofs.Tries.{both, as-due}
use Rattle.plans.specs.Plans.{plan_of_kind}
use Rattle.refusals.specs.Inputs.{PlanInput}
use Rattle.refusals.specs.Refusals.{buffers_refusal, plan_kind_refusal, plan_refusal}
use Rattle.refusals.proofs.Listed.{called}
use Rattle.std.specs.Prelude.{Result, Ok, Err}
use Rattle.call_answers.specs.declared.Refusal.{Refusal}
use Rattle.call_answers.specs.Answers.{Told}
use Rattle.plan_calls.specs.Calls.{Planned}
use Rattle.listing.specs.Listing.{listing, refused_line}
use Rattle.printing.specs.Texts.{plan_listing, unless_refused, answer_text, plan_text}
use Rattle.printing.specs.Asked.{SurveyAsked, PlanAsked, ListingAsked}

-- an answer's text is that of its first refusal x, and else that of its total and of what is new in the buffers
answered-text : (r : Result ℕ Refusal) (x : ℕ) {reported : ℕ} (m : ℕ) (rows new-sites new-division old-sites old-division : List ℕ) {sites division : List ℕ}
    → Told r x reported → sites ≡ after x new-sites old-sites → division ≡ after x new-division old-division
    → answer_text r m rows sites division ≡ unless_refused x (listing m rows reported new-sites new-division)
unfolding ◌when◌
answered-text (Ok y) zero {reported} m rows new-sites new-division old-sites old-division told s d =
    let same : y ≡ reported = told.right-total in
    rw (same, s, d)
answered-text (Ok y) (suc x) m rows new-sites new-division old-sites old-division told s d = absurd (suc-ne-zero x (sym told.right-number))
answered-text (Err y) zero m rows new-sites new-division old-sites old-division told s d = absurd (true≢false (sym told.right-case))
answered-text (Err y) (suc x) m rows new-sites new-division old-sites old-division told s d =
    ap (λ (z : ℕ). refused_line z) told.right-number

-- tries behind a number that refuse nothing
none-behind : (x rest : ℕ) → rest ≡ 0 → x ≡ x or_else rest
none-behind x rest e = sym (ap (λ (y : ℕ). x or_else y) e ∙ or-none x)

-- what a call tries besides is all that can refuse an accepted survey
survey-own : (t : Town) (k own other : ℕ) → survey_refusal t k own ≡ 0 → survey_refusal t k other ≡ other
survey-own t k own other e =
    let (streets, past-streets) = or-zero (streets_refusal t.n) _ e in
    let (sites, past-sites) = or-zero (sites_refusal t.m) _ past-streets in
    let (chosen, past-chosen) = or-zero (chosen_refusal k t.m) _ past-sites in
    let last = none-behind other _ (or-zero own _ past-chosen).1 in
    sym (own-pass other _ _ streets (own-pass other _ _ sites (own-pass other _ _ chosen last)))

-- the sizes of a plan
pub survey-few : {t : Town} {k kind : ℕ} → SurveyAsked t k kind → (t.n ≤ most_streets) × (t.m ≤ most_sites) × (k ≤ most_sites)
survey-few {t} {k} asked =
    let ok = called t k _ asked.sound in
    (ok.survey.few-streets, ok.survey.few-sites, omega (arith, ok.few, ok.survey.few-sites))

module _ {i : PlanInput} (asked : PlanAsked i) where
  -- a plan that was made in the buffers can be listed
  pub listing-asked : {division chosen : List ℕ} → length division ≡ length i.division → length chosen ≡ length i.chosen
      → ListingAsked i.town.m i.town.rows chosen division
  listing-asked {division} d s =
      let ok = (called i.town i.k _ asked.survey.sound).survey in
      let (few-streets, few-sites, few-chosen) = survey-few asked.survey in
      let size : length division ≡ i.town.n = d ∙ asked.streets in
      record {
        few-sites = ok.few-sites;
        few-chosen = omega (arith, asked.sites);
        few-streets = omega arith;
        rows-there = rw size (omega (arith, ok.rows_fit));
      }

  -- the buffers refuse nothing
  buffers-none : buffers_refusal i.town.n i.k i.division i.chosen ≡ 0
  buffers-none = both _ _ (as-due 6 (length i.division) i.town.n asked.streets) (as-due 6 (length i.chosen) i.k asked.sites)

  -- so that what is tried by the kind decides
  kind-decides : plan_refusal i ≡ plan_kind_refusal i.kind i.town.n i.k
  kind-decides =
      let tries : ℕ = plan_kind_refusal i.kind i.town.n i.k in
      survey-own i.town i.k _ _ asked.survey.sound ∙ ap (λ (y : ℕ). tries or_else y) buffers-none ∙ or-none tries

  -- what the call gave is the text
  pub plan-text : {division chosen : List ℕ} {r : Result ℕ Refusal} → Planned i division chosen r
      → answer_text r i.town.m i.town.rows chosen division ≡ plan_text i.town i.k i.kind
  unfolding plan_text
  plan-text {r = r} plan =
      let o = plan.outcome in
      answered-text r (plan_refusal i) _ _ _ _ _ _ o.answer o.sites o.streets
      ∙ ap (λ (y : ℕ). unless_refused y (plan_listing i.town (plan_of_kind i.kind i.town i.k))) kind-decides
