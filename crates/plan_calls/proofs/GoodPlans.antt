-- How good the plans are that the definitions give, of each kind.
-- Assumes nothing.
use mathlib.Core.Path.{◌≡◌, refl, sym}
use Prim.Native.Nat.{ℕ}
use Rattle.counting.specs.Sites.{Choice}
use Rattle.survey.specs.Town.{Town}
use Rattle.survey.specs.Rows.{value}
use Rattle.survey.specs.Refusals.{share_refusal, survey_refusal}
use Rattle.survey.proofs.Sound.{accepted, chosen-within}
use Rattle.free_plan.proofs.Sites.{free-plan}
use Rattle.free_plan.proofs.Bound.{bound-plan}
use Rattle.free_results.proofs.Scored.{served-total}
use Rattle.plans.proofs.Orders.{by-counted-score}
use Rattle.plans.specs.Plans.{list_total, free_division, free_sites, balanced_division, street_key, balanced_sites, balanced_total}
use Rattle.plans.specs.Best.{BestDivision}
use Rattle.balanced_results.proofs.BestDivisions.{best-division}
use Rattle.balanced_results.proofs.SurveyRounds.{sites-plan, sites-shareable}
use Rattle.balanced_results.proofs.SurveyFloor.{plan-floor}
use Rattle.refusals.proofs.Listed.{Called, called}
use Rattle.plan_calls.specs.Good.{GoodFree, GoodBalanced}
use Rattle.plan_calls.proofs.OwnTests.{free-list-passes, balanced-list-passes}

module _ (t : Town) (k own : ℕ) (ok : survey_refusal t k own ≡ 0) where
  pub good-free : GoodFree t k (free_division t (free_sites t k)) (free_sites t k) (list_total t (free_sites t k))
  good-free =
      let plan = free-plan (value t) t.n t.m k (chosen-within t k own ok).1 in
      record {
        sites = plan;
        of-sites = refl;
        of-streets = sym (served-total t (free_sites t k) (accepted t k own ok).sound-scores);
        bound = λ other p. bound-plan (value t) t.n t.m k other p.size p.apart p.sites;
        passes = free-list-passes t k own ok (free_sites t k) plan;
      }

module _ (t : Town) (k own : ℕ) (ok : survey_refusal t k own ≡ 0) (enough : share_refusal t.n k ≡ 0) where
  -- the survey is sound, and k is one of 1 to m
  call : Called t k
  call = called t k own ok

  sites : Choice t.m k (balanced_sites t k)
  sites = sites-plan (value t) (street_key t) t.n t.m k call.some call.few

  -- the division over the sites is the best one
  best : BestDivision t (balanced_sites t k) (balanced_division t (balanced_sites t k)) (balanced_total t k)
  best = best-division t (balanced_sites t k) (sites-shareable (value t) (street_key t) t.n t.m k call.some call.few)

  pub good-balanced : GoodBalanced t k (balanced_division t (balanced_sites t k)) (balanced_sites t k) (balanced_total t k)
  good-balanced =
      record {
        sites = sites;
        order = by-counted-score call.survey;
        best = best;
        floor = plan-floor call.survey k call.some call.few sites;
        passes = balanced-list-passes t k own ok (balanced_sites t k) sites enough best.in-shares;
      }
