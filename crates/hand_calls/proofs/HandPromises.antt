-- The promises of a hand plan, from its answer: its loads, and the shares of a balanced one.
-- Assumes nothing.
use mathlib.Core.Path.{◌≡◌, sym, ◌∙◌}
use mathlib.Core.Bool.{true}
use Prim.Native.Nat.{ℕ}
use lib.ListN.{length}
use Rattle.std.specs.Prelude.{Result}
use Rattle.counting.proofs.Refusals.{or-zero}
use Rattle.survey.specs.Rows.{value}
use Rattle.survey.proofs.Sound.{own-accepted}
use Rattle.division.specs.Shares.{share_sum}
use Rattle.division.proofs.Counts.{in-length}
use Rattle.division.proofs.Best.{divide-most}
use Rattle.balanced_plan.proofs.CountedShares.{by-counts}
use Rattle.plans.specs.Plans.{plan_total, shares_for}
use Rattle.plans.specs.Unweighted.{Ones, plain_plan_total}
use Rattle.plans.proofs.Unweighted.{plan-total-plain}
use Rattle.refusals.specs.Inputs.{HandInput}
use Rattle.refusals.specs.Refusals.{LoadNumbers, load_numbers, no_loads, hand_by, hand_refusal, free_hand_by, balanced_hand_by, LoadsTaken}
use Rattle.refusals.proofs.Listed.{passed, fits}
use Rattle.refusals.proofs.ByKind.{hand-free, hand-balanced, hand-other}
use Rattle.refusals.proofs.Passed.{hand-passed, shares-passed, loads-same}
use Rattle.call_answers.specs.declared.Refusal.{Refusal}
use Rattle.call_answers.specs.Answers.{Tried, Told, number, accepts}
use Rattle.call_answers.proofs.Answers.{told-passed, told_same}
use Rattle.hand_calls.specs.Passing.{LoadedHand, SharedHand}
use Rattle.hand_calls.specs.Calls.{HandOutcome, HandTested}

module _ (i : HandInput) (r : Result ℕ Refusal) (told : Told r (hand_refusal i) (plan_total i.town i.division)) where
  -- a plan of either kind that passes is within its limits, and where it is, its number is the one without loads
  loaded : LoadsTaken i.town i.loads → LoadedHand i (hand_by no_loads i) (number r)
  loaded taken =
      let first = told.right-number in
      record {
        only = λ z. let w = (hand-passed i (sym first ∙ z)).within in (sym (loads-same i taken w) ∙ sym first ∙ z, w);
        same = λ w. first ∙ loads-same i taken w;
      }

  -- a balanced one has the shares of some K sites
  shared : i.kind ≡ 1 → accepts r ≡ true → SharedHand i.town i.k i.division
  shared one y =
      let h = shares-passed i one (hand-passed i (told-passed told y)) in
      let t = i.town in
      let (sites, choice, shares) = by-counts t.n t.m i.k i.division h.some h.size h.sites h.larger h.least in
      let sum : share_sum (shares_for t sites) ≡ t.n = sym (in-length i.division (shares_for t sites) shares) ∙ h.size in
      record { sites = sites; choice = choice; in-shares = shares; most = divide-most (value t) t.n (shares_for t sites) sum i.division shares }

  -- with every weight 1 a plan that passes totals the scores
  plain : Ones i.town → Told r (hand_refusal i) (plain_plan_total i.town i.division)
  plain ones = told_same (λ z. plan-total-plain i.town ones i.division (size z)) told
    where
      size : hand_refusal i ≡ 0 → length i.division ≡ i.town.n
      size z =
          let own = or-zero _ _ (own-accepted i.town i.k _ (hand-passed i z).survey) in
          fits (length i.division) i.town.n (or-zero _ _ own.1).0

  outcome : HandOutcome hand_by i r
  outcome = record { answer = told; loaded = loaded }

  -- the same outcome by another name of the chain
  outcome-as : (chain : LoadNumbers → HandInput → ℕ) → ((loads : LoadNumbers) → hand_by loads i ≡ chain loads i) → HandOutcome chain i r
  outcome-as chain e =
      record { answer = rw (e (load_numbers i.town i.division i.loads)) at told; loaded = rw (e no_loads) at loaded }

  pub hand-tested : HandTested i r
  hand-tested =
      record {
        outcome = outcome;
        free = λ z. outcome-as free_hand_by (λ loads. hand-free loads i z);
        balanced = λ z. outcome-as balanced_hand_by (λ loads. hand-balanced loads i z);
        other = λ l. told.right-number ∙ hand-other _ i l;
        plain = plain;
        shared = shared;
      }

-- the claim of a plan that passes is its total
pub hand-claimed : {i : HandInput} → Tried hand_refusal i 0 → i.claimed ≡ plan_total i.town i.division
hand-claimed {i} tried = (hand-passed i (passed tried)).right
