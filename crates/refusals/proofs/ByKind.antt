-- The cases of a plan's chain of tries by its kind: for kind 0 it is the free plan's, for kind 1 the balanced plan's, and so for a hand plan.
-- Assumes nothing.
use mathlib.Core.Path.{◌≡◌, refl, sym, ap, ◌∙◌}
use Prim.Native.Nat.{ℕ, ◌<◌}
use native.Mathlib.Nat.{suc-ne-zero}
use lib.Dec.{ltb, lit<}
use lib.ListN.{length}
use borrow.Author.Tests.{lt-ltb}
use Rattle.counting.specs.Words.{◌when◌, ◌or_else◌}
use Rattle.counting.proofs.Refusals.{refuse, or-stop, group}
use Rattle.survey.specs.Refusals.{share_refusal, length_refusal, survey_refusal}
use Rattle.survey.proofs.Sound.{own-accepted}
use Rattle.refusals.specs.Inputs.{PlanInput, HandInput}
use Rattle.refusals.specs.Refusals.{LoadNumbers, plan_kind_refusal, plan_refusal, free_plan_refusal, balanced_plan_refusal}
use Rattle.refusals.specs.Refusals.{buffers_refusal, lowest_site, usage_refusal, sent_refusal, hand_by, free_hand_by, balanced_hand_by}

-- a kind that is neither is refused with 4, if none of 1, 2 and 3 comes before it
other-tries : (kind n k : ℕ) → 1 < kind → plan_kind_refusal kind n k ≡ 4
other-tries kind n k l = sym (refuse 4 (ltb 1 kind) _ (lit< tt) (lt-ltb 1 kind l))

pub plan-other : (i : PlanInput) → 1 < i.kind → plan_refusal i ≡ survey_refusal i.town i.k 4
unfolding ◌or_else◌
plan-other i l =
    ap (λ (x : ℕ). survey_refusal i.town i.k (x or_else buffers_refusal i.town.n i.k i.division i.chosen))
    (other-tries i.kind i.town.n i.k l)

pub hand-other : (loads : LoadNumbers) (i : HandInput) → 1 < i.kind → hand_by loads i ≡ survey_refusal i.town i.k 4
unfolding ◌or_else◌
hand-other loads i l =
    ap (λ (x : ℕ). survey_refusal i.town i.k (x or_else length_refusal (length i.division) i.town.n or_else loads.lengths) or_else rest)
    (other-tries i.kind i.town.n i.k l)
    ∙ sym (or-stop (survey_refusal i.town i.k 4) _ rest refl (λ z. suc-ne-zero 3 (own-accepted i.town i.k 4 z)))
  where
    rest : ℕ
    rest =
        sent_refusal i.town i.division i.claimed (lowest_site i.kind) (usage_refusal i.kind i.town.n i.town.m i.k i.division) loads

-- a free plan is tried for nothing by its kind, and a balanced one for 5
pub free-tries : (kind n k : ℕ) → kind ≡ 0 → plan_kind_refusal kind n k ≡ 0
unfolding ◌when◌ ◌or_else◌
free-tries kind n k z = rw z

pub balanced-tries : (kind n k : ℕ) → kind ≡ 1 → plan_kind_refusal kind n k ≡ share_refusal n k
unfolding ◌when◌ ◌or_else◌
balanced-tries kind n k z = rw z

pub plan-free : (i : PlanInput) → i.kind ≡ 0 → plan_refusal i ≡ free_plan_refusal i
unfolding ◌or_else◌
plan-free i z = rw (z, free-tries 0 i.town.n i.k refl)

pub plan-balanced : (i : PlanInput) → i.kind ≡ 1 → plan_refusal i ≡ balanced_plan_refusal i
plan-balanced i z = rw (z, balanced-tries 1 i.town.n i.k refl)

pub hand-free : (loads : LoadNumbers) (i : HandInput) → i.kind ≡ 0 → hand_by loads i ≡ free_hand_by loads i
unfolding ◌or_else◌
hand-free loads i z = rw (z, free-tries 0 i.town.n i.k refl)

pub hand-balanced : (loads : LoadNumbers) (i : HandInput) → i.kind ≡ 1 → hand_by loads i ≡ balanced_hand_by loads i
hand-balanced loads i z = rw (z, balanced-tries 1 i.town.n i.k refl, group (share_refusal i.town.n i.k) _ loads.lengths)
