-- A hand plan of an accepted survey that has what its definition asks for passes its test, the claim of one that passes is right, and loads that are
-- within the limits change no number.
-- Assumes nothing.
use mathlib.Core.Path.{◌≡◌, refl, sym, ap, ◌∙◌}
use Prim.Native.Nat.{ℕ, suc, ◌-◌, ◌≤◌, ◌<◌}
use native.Mathlib.Omega.{arith}
use lib.Dec.{ltb, eqb, lit<}
use lib.ListN.{length}
use Rattle.counting.specs.Words.{◌or_else◌}
use Rattle.counting.specs.Lists.{at}
use Rattle.counting.specs.Sites.{Sites}
use Rattle.counting.proofs.Refusals.{or-zero, exact, first-zeros}
use Rattle.survey.specs.Rows.{value}
use Rattle.survey.specs.Refusals.{length_refusal, survey_refusal}
use Rattle.survey.proofs.Sound.{own-accepted, chosen-within}
use Rattle.shares.specs.Rounds.{least_share, larger_shares}
use Rattle.division.specs.Shares.{division_total}
use Rattle.loads.specs.Loads.{lengths_refusal, Within}
use Rattle.loads.proofs.Limits.{limits-within, within-limits}
use Rattle.survey_file.proofs.Tries.{both, in-range, not-above, as-due}
use Rattle.refusals.specs.Inputs.{HandInput}
use Rattle.refusals.specs.Refusals.{plan_kind_refusal, ranges_refusal, sites_with, used_refusal, shares_refusal, usage_refusal, lowest_site}
use Rattle.refusals.specs.Refusals.{no_loads, LoadsTaken, hand_by, hand_refusal}
use Rattle.refusals.proofs.Listed.{fits, ranges-sites}

-- ---- a plan that has what is asked for
module _ (i : HandInput) (own : ℕ) (ok : survey_refusal i.town i.k own ≡ 0) (size : length i.division ≡ i.town.n)
    (right : i.claimed ≡ division_total (value i.town) i.division) where
  -- a survey that is accepted by one call is accepted by each whose own tries refuse nothing
  again : (other : ℕ) → other ≡ 0 → survey_refusal i.town i.k other ≡ 0
  again other z = ap (λ (x : ℕ). survey_refusal i.town i.k x) (z ∙ sym (own-accepted i.town i.k own ok)) ∙ ok

  -- sites in their range are not refused
  in-ranges : (low : ℕ) → ((s : ℕ) → s < i.town.n → (low ≤ at i.division s) × (at i.division s ≤ i.town.m))
      → ranges_refusal low i.town.m i.division ≡ 0
  in-ranges low h =
      first-zeros (length i.division) _ (λ s l. let (a, b) = h s (omega arith) in in-range 17 (at i.division s) low i.town.m a b)

  -- nothing is tried for its kind, its sites are in their range, and the 18 of its kind does not apply
  pub hand-passes : plan_kind_refusal i.kind i.town.n i.k ≡ 0
      → ((s : ℕ) → s < i.town.n → (lowest_site i.kind ≤ at i.division s) × (at i.division s ≤ i.town.m))
      → usage_refusal i.kind i.town.n i.town.m i.k i.division ≡ 0 → hand_by no_loads i ≡ 0
  hand-passes tries sites used =
      both _ _ (again _ (both _ _ tries (both _ _ (as-due 6 (length i.division) i.town.n size) refl)))
      (both 0 _ refl (both _ _ (in-ranges _ sites) (both _ _ used (both 0 _ refl (as-due 19 i.claimed _ right)))))

-- at most k sites are used: no 18 of a free plan
pub used-none : (i : HandInput) → sites_with (ltb 0) i.town.m i.division ≤ i.k → used_refusal i.town.m i.k i.division ≡ 0
used-none i few = not-above 18 _ i.k few

-- r sites have q + 1 streets, and k - r have q: no 18 of a balanced one
pub shares-none : (i : HandInput)
    → sites_with (eqb (suc (least_share i.town.n i.k))) i.town.m i.division ≡ larger_shares i.town.n i.k
    → sites_with (eqb (least_share i.town.n i.k)) i.town.m i.division ≡ i.k - larger_shares i.town.n i.k
    → shares_refusal i.town.n i.town.m i.k i.division ≡ 0
shares-none i larger least = both _ _ (as-due 18 _ _ larger) (as-due 18 _ _ least)

-- ---- a plan that passes
-- what is tried behind its survey, of either kind
pub record HandPassed (i : HandInput) : Type 0 where
  pub survey : survey_refusal i.town i.k
      (plan_kind_refusal i.kind i.town.n i.k or_else length_refusal (length i.division) i.town.n or_else
      lengths_refusal i.town.n i.town.m i.loads) ≡ 0
  pub ranges : ranges_refusal (lowest_site i.kind) i.town.m i.division ≡ 0
  pub used : usage_refusal i.kind i.town.n i.town.m i.k i.division ≡ 0
  -- each site's two sums are within its limits, and the claim is right
  pub within : Within i.town.m i.loads i.division
  pub right : i.claimed ≡ division_total (value i.town) i.division

pub hand-passed : (i : HandInput) → hand_refusal i ≡ 0 → HandPassed i
hand-passed i z =
    let (survey, rest) = or-zero _ _ z in
    let (ranges, more) = or-zero _ _ (or-zero _ _ rest).1 in
    let (used, last) = or-zero _ _ more in
    let (limits, claim) = or-zero _ _ last in
    record {
      survey = survey;
      ranges = ranges;
      used = used;
      within = limits-within i.loads i.division i.town.m limits;
      right = exact 19 i.claimed _ (lit< tt) claim;
    }

-- a balanced one has a site of 1 to m for each street, and its sites have their shares
pub record SharesPassed (i : HandInput) : Type 0 where
  pub some : 1 ≤ i.k
  pub size : length i.division ≡ i.town.n
  pub sites : Sites i.town.m i.division
  pub larger : sites_with (eqb (suc (least_share i.town.n i.k))) i.town.m i.division ≡ larger_shares i.town.n i.k
  pub least : sites_with (eqb (least_share i.town.n i.k)) i.town.m i.division ≡ i.k - larger_shares i.town.n i.k

pub shares-passed : (i : HandInput) → i.kind ≡ 1 → HandPassed i → SharesPassed i
shares-passed i one h =
    let own = or-zero _ _ (own-accepted i.town i.k _ h.survey) in
    let (larger, least) = or-zero _ _ (rw one at h.used) in
    record {
      some = (chosen-within i.town i.k _ h.survey).0;
      size = fits (length i.division) i.town.n (or-zero _ _ own.1).0;
      sites = ranges-sites i.town.m i.division (rw one at h.ranges);
      larger = exact 18 _ _ (lit< tt) larger;
      least = exact 18 _ _ (lit< tt) least;
    }

-- ---- loads
module _ (i : HandInput) (taken : LoadsTaken i.town i.loads) where
  -- where each site's two sums are within its limits, the number is the one without loads
  pub loads-same : Within i.town.m i.loads i.division → hand_refusal i ≡ hand_by no_loads i
  loads-same w = rw (taken.lengths, taken.above, within-limits i.loads i.division i.town.m w) refl
