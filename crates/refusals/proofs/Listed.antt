-- What an accepted call holds: its survey, the number of sites, the list of sites that it was given, a street for each site, and the lengths of
-- the buffers that it was lent.
-- Assumes nothing.
use mathlib.Core.Path.{◌≡◌, sym, subst}
use mathlib.Core.Bool.{true}
use mathlib.Core.Logic.{by_cases}
use mathlib.Core.List.{List}
use Prim.Native.Nat.{ℕ, ◌≤◌, ◌<◌}
use native.Mathlib.Decide.{dec_lt}
use native.Mathlib.Omega.{arith}
use lib.Dec.{ltb, lit<}
use borrow.Author.Tests.{ltb-false}
use lib.ListN.{length, take}
use Rattle.counting.specs.Words.{◌when◌}
use Rattle.counting.specs.Lists.{at, has, distinct}
use Rattle.counting.specs.Sites.{Sites}
use Rattle.counting.proofs.Membership.{apart}
use Rattle.counting.proofs.Sums.{at-past, has-index}
use Rattle.counting.proofs.Refusals.{or-zero, when-zero, within, exact, first-none}
use Rattle.survey.specs.Town.{Town}
use Rattle.survey.specs.Refusals.{share_refusal, length_refusal, survey_refusal}
use Rattle.survey.specs.Accepted.{Accepted}
use Rattle.survey.proofs.Sound.{accepted, own-accepted, chosen-within}
use Rattle.refusals.specs.Inputs.{SurveyInput, ListInput, DivisionInput, PlanInput}
use Rattle.call_answers.specs.Answers.{Tried}
use Rattle.refusals.specs.Refusals.{range_refusal, ranges_refusal, list_refusal, listed_refusal, list_total_refusal, free_division_refusal}
use Rattle.refusals.specs.Refusals.{balance_refusal, balanced_division_refusal, buffers_refusal, plan_kind_refusal, plan_refusal, floor_refusal}

-- ---- sites that are not refused: each is one of 1 to m
module _ (m : ℕ) (sites : List ℕ) (e : ranges_refusal 1 m sites ≡ 0) where
  ranges-at : (i : ℕ) → i < length sites → (0 < at sites i) × (at sites i ≤ m)
  ranges-at i l = within 17 (at sites i) 1 m (lit< tt) (first-none (length sites) (λ j. range_refusal 1 m (at sites j)) e i l)

  pub ranges-sites : Sites m sites
  ranges-sites a h = let (i, l, q) = has-index a sites h in subst (λ (b : ℕ). (0 < b) × (b ≤ m)) q (ranges-at i l)

-- in a given list none is listed twice
module _ (m : ℕ) (sites : List ℕ) (e : list_refusal m sites ≡ 0) where
  list-ranges : ranges_refusal 1 m sites ≡ 0
  list-ranges = (or-zero (ranges_refusal 1 m sites) _ e).0

  list-low : (i : ℕ) → at sites i ≤ m
  list-low i = by_cases (dec_lt i (length sites)) (λ l. (ranges-at m sites list-ranges i l).1) (λ l. omega (arith, at-past sites i (omega arith)))

  pub list-sites : Sites m sites
  list-sites = ranges-sites m sites list-ranges

  pub list-apart : distinct sites ≡ true
  list-apart = apart sites (λ i l. when-zero 20 _ (lit< tt) (first-none (length sites) (λ j. 20 when has (at sites j) (take j sites)) (or-zero (ranges_refusal 1 m sites) _ e).1 i l))

-- ---- calls that are not refused
-- with k sites to be chosen: the survey is sound, and k is one of 1 to m
pub record Called (t : Town) (k : ℕ) : Type 0 where
  pub survey : Accepted t
  pub some : 1 ≤ k
  pub few : k ≤ t.m

-- with a given list of sites: the same of their number, and the list is not refused
pub record Listed (t : Town) (sites : List ℕ) : Type 0 where
  pub called : Called t (length sites)
  pub list : list_refusal t.m sites ≡ 0

-- none of its sites is above m
pub listed-low : {t : Town} {sites : List ℕ} → Listed t sites → (i : ℕ) → at sites i ≤ t.m
listed-low {t} {sites} l = list-low t.m sites l.list

-- a call's tries refused nothing: nothing of its chain applies
pub passed : {A : Type 0} {chain : A → ℕ} {input : A} → Tried chain input 0 → chain input ≡ 0
passed tried = sym tried.first

pub called : (t : Town) (k own : ℕ) → survey_refusal t k own ≡ 0 → Called t k
called t k own e = let (some, few) = chosen-within t k own e in record { survey = accepted t k own e; some = some; few = few }

-- a buffer that is not refused has its exact length
pub fits : (given due : ℕ) → length_refusal given due ≡ 0 → given ≡ due
fits given due = exact 6 given due (lit< tt)

-- of sites that are not refused there are no more than streets
pub enough : (n k : ℕ) → share_refusal n k ≡ 0 → k ≤ n
enough n k e = ltb-false n k (when-zero 5 (ltb n k) (lit< tt) e)

-- a balanced division that is not refused has a place for each street
pub balance-fits : (n k : ℕ) (division : List ℕ) → balance_refusal n k division ≡ 0 → length division ≡ n
balance-fits n k division e = fits (length division) n (or-zero (share_refusal n k) _ e).1

pub buffers-fit : (n k : ℕ) (division chosen : List ℕ) → buffers_refusal n k division chosen ≡ 0 → (length division ≡ n) × (length chosen ≡ k)
buffers-fit n k division chosen e =
    let (d, c) = or-zero (length_refusal (length division) n) _ e in
    (fits (length division) n d, fits (length chosen) k c)

-- the calls with a given list, whatever they try besides
module _ (t : Town) (sites : List ℕ) (own : ℕ) (e : listed_refusal t sites own ≡ 0) where
  both : (survey_refusal t (length sites) own ≡ 0) × (list_refusal t.m sites ≡ 0)
  both = or-zero (survey_refusal t (length sites) own) (list_refusal t.m sites) e

  pub listed : Listed t sites
  listed = record { called = called t (length sites) own both.0; list = both.1 }

  pub listed-own : own ≡ 0
  listed-own = own-accepted t (length sites) own both.0

pub list-total-listed : {i : ListInput} → Tried list_total_refusal i 0 → Listed i.town i.sites
list-total-listed {i} tried = listed i.town i.sites 0 (passed tried)

module _ {i : DivisionInput} (tried : Tried free_division_refusal i 0) where
  pub free-division-listed : Listed i.town i.sites
  free-division-listed = listed i.town i.sites _ (passed tried)

  pub free-division-fits : length i.division ≡ i.town.n
  free-division-fits = fits (length i.division) i.town.n (listed-own i.town i.sites _ (passed tried))

module _ {i : DivisionInput} (tried : Tried balanced_division_refusal i 0) where
  pub balanced-division-listed : Listed i.town i.sites
  balanced-division-listed = listed i.town i.sites _ (passed tried)

  pub balanced-division-fits : length i.division ≡ i.town.n
  balanced-division-fits = balance-fits i.town.n (length i.sites) i.division (listed-own i.town i.sites _ (passed tried))

module _ {i : PlanInput} (tried : Tried plan_refusal i 0) where
  -- its buffers have a place for each street and for each site
  pub plan-fits : (length i.division ≡ i.town.n) × (length i.chosen ≡ i.k)
  plan-fits =
      buffers-fit i.town.n i.k i.division i.chosen
      (or-zero (plan_kind_refusal i.kind i.town.n i.k) _ (own-accepted i.town i.k _ (passed tried))).1

  -- so there is a place for one site at least and for m at most
  pub plan-asked : (0 < length i.chosen) × (length i.chosen ≤ i.town.m)
  plan-asked =
      let call = called i.town i.k _ (passed tried) in
      (omega (arith, plan-fits.1, call.some), omega (arith, plan-fits.1, call.few))

-- a floor has a sound survey and a number of sites of 1 to m
pub floor-called : {i : SurveyInput} → Tried floor_refusal i 0 → Called i.town i.k
floor-called {i} tried = called i.town i.k _ (passed tried)
