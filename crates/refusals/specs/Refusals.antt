-- For each call the first of the papers' numbers that applies, and 0 where the call is accepted. A division, a list of sites and a file
-- are the lists of their bytes; of a buffer that is only written its length decides.
-- Assumes nothing.
use Rattle.std.specs.Prelude.{ℕ, suc, ◌-◌, ◌≡◌, Bool, List, ltb, eqb, length, take}
use Rattle.counting.specs.Bounds.{most_streets, most_sites, most_rows}
use Rattle.counting.specs.Words.{◌when◌, ◌unless◌, ◌or_else◌, first_nonzero, count_of, outside}
use Rattle.counting.specs.Lists.{at, has, count}
pub use Rattle.call_answers.specs.Answers.{Tried}
use Rattle.survey.specs.Town.{Town}
use Rattle.survey.specs.Rows.{value}
use Rattle.survey.specs.ByKind.{by_kind}
use Rattle.survey.specs.Refusals.{sites_refusal, kind_refusal, share_refusal, length_refusal, scores_refusal, weight_refusal, row_refusal, survey_refusal}
use Rattle.shares.specs.Rounds.{least_share, larger_shares}
use Rattle.division.specs.Shares.{division_total}
use Rattle.loads.specs.Loads.{Loads, lengths_refusal, loads_refusal, limits_refusal}
use Rattle.survey_file.specs.Filed.{form_refusal}
use Rattle.survey_file.specs.Encode.{encode}
use Rattle.survey_file.specs.Decode.{file_refusal, town_in}
use Rattle.survey_file.specs.FileBuffers.{converted}
use Rattle.refusals.specs.Inputs.{SurveyInput, RowInput, ListInput, DivisionInput, PlanInput, HandInput, WriteInput, ReadInput, ConvertInput}

-- check of a survey
abbrev pub check_refusal : SurveyInput → ℕ
check_refusal i = survey_refusal i.town i.k 0

-- 17: a site outside a range
abbrev pub range_refusal : ℕ → ℕ → ℕ → ℕ
range_refusal low m site = 17 when outside site low m

-- counted score of one row for one site
abbrev pub row_score_refusal : RowInput → ℕ
row_score_refusal i =
    sites_refusal i.m or_else
    length_refusal (length i.scores) i.m or_else
    length_refusal (length i.row) i.m or_else
    scores_refusal i.scores or_else
    weight_refusal i.weight or_else
    row_refusal i.m i.row or_else
    range_refusal 1 i.m i.site

-- 17 all through a list
abbrev pub ranges_refusal : ℕ → ℕ → List ℕ → ℕ
ranges_refusal low m sites = first_nonzero (length sites) (λ j. range_refusal low m (at sites j))

-- 20: a site listed twice
abbrev pub twice_refusal : List ℕ → ℕ
twice_refusal sites = first_nonzero (length sites) (λ j. 20 when has (at sites j) (take j sites))

-- a given list of sites: 17 all through, then 20
abbrev pub list_refusal : ℕ → List ℕ → ℕ
list_refusal m sites = ranges_refusal 1 m sites or_else twice_refusal sites

-- a survey with a given list of sites; `own` is what the call tries besides
abbrev pub listed_refusal : Town → List ℕ → ℕ → ℕ
listed_refusal t sites own = survey_refusal t (length sites) own or_else list_refusal t.m sites

-- total of a list of sites
abbrev pub list_total_refusal : ListInput → ℕ
list_total_refusal i = listed_refusal i.town i.sites 0

-- free division over a list of sites
abbrev pub free_division_refusal : DivisionInput → ℕ
free_division_refusal i = listed_refusal i.town i.sites (length_refusal (length i.division) i.town.n)

-- 5, then 6 for a division
abbrev pub balance_refusal : ℕ → ℕ → List ℕ → ℕ
balance_refusal n k division = share_refusal n k or_else length_refusal (length division) n

-- balanced division over a list of sites
abbrev pub balanced_division_refusal : DivisionInput → ℕ
balanced_division_refusal i = listed_refusal i.town i.sites (balance_refusal i.town.n (length i.sites) i.division)

-- 6 for the two buffers of a plan
abbrev pub buffers_refusal : ℕ → ℕ → List ℕ → List ℕ → ℕ
buffers_refusal n k division chosen = length_refusal (length division) n or_else length_refusal (length chosen) k

-- 4, then 5 for a balanced plan
abbrev pub plan_kind_refusal : ℕ → ℕ → ℕ → ℕ
plan_kind_refusal kind n k = kind_refusal kind or_else by_kind kind 0 (share_refusal n k)

-- plan
abbrev pub plan_refusal : PlanInput → ℕ
plan_refusal i =
    survey_refusal i.town i.k
    (plan_kind_refusal i.kind i.town.n i.k or_else buffers_refusal i.town.n i.k i.division i.chosen)

-- its cases: free plan
abbrev pub free_plan_refusal : PlanInput → ℕ
free_plan_refusal i = survey_refusal i.town i.k (buffers_refusal i.town.n i.k i.division i.chosen)

-- and balanced plan
abbrev pub balanced_plan_refusal : PlanInput → ℕ
balanced_plan_refusal i =
    survey_refusal i.town i.k (share_refusal i.town.n i.k or_else buffers_refusal i.town.n i.k i.division i.chosen)

-- floor
abbrev pub floor_refusal : SurveyInput → ℕ
floor_refusal i = survey_refusal i.town i.k (share_refusal i.town.n i.k)

-- the sites of 1 to m that have a number of streets that passes the test
abbrev pub sites_with : (ℕ → Bool) → ℕ → List ℕ → ℕ
sites_with test m division = count_of m (λ i. test (count division (suc i)))

-- 19: the claimed total is not the plan's
abbrev pub claim_refusal : Town → List ℕ → ℕ → ℕ
claim_refusal t division claimed = 19 unless eqb claimed (division_total (value t) division)

-- 18 of a free plan: more than k sites are used, 0 not counted
abbrev pub used_refusal : ℕ → ℕ → List ℕ → ℕ
used_refusal m k division = 18 when ltb k (sites_with (ltb 0) m division)

-- 18 of a balanced plan: not exactly r sites have q + 1 streets, or not exactly k - r have q
abbrev pub shares_refusal : ℕ → ℕ → ℕ → List ℕ → ℕ
shares_refusal n m k division =
    18 unless eqb (sites_with (eqb (suc (least_share n k))) m division) (larger_shares n k) or_else
    18 unless eqb (sites_with (eqb (least_share n k)) m division) (k - larger_shares n k)

-- 18 of a plan, by its kind
abbrev pub usage_refusal : ℕ → ℕ → ℕ → ℕ → List ℕ → ℕ
usage_refusal kind n m k division = by_kind kind (used_refusal m k division) (shares_refusal n m k division)

-- the lowest site that a street may have, by the plan's kind: 0 is none
abbrev pub lowest_site : ℕ → ℕ
lowest_site kind = by_kind kind 0 1

-- what the loads of a hand plan are tried for: 6, 21, then 22 and 23
pub record LoadNumbers : Type 0 where
  pub lengths : ℕ
  pub above : ℕ
  pub over : ℕ

abbrev pub load_numbers : Town → List ℕ → Loads → LoadNumbers
load_numbers t division loads =
    record { lengths = lengths_refusal t.n t.m loads; above = loads_refusal loads; over = limits_refusal t.m loads division }

-- a hand plan without loads is tried for nothing of theirs
abbrev pub no_loads : LoadNumbers
no_loads = record { lengths = 0; above = 0; over = 0 }

-- what a hand plan is tried for behind its survey; `low` is the lowest site that a street may have, and `used` the 18 of its kind
abbrev pub sent_refusal : Town → List ℕ → ℕ → ℕ → ℕ → LoadNumbers → ℕ
sent_refusal t division claimed low used loads =
    loads.above or_else
    ranges_refusal low t.m division or_else
    used or_else
    loads.over or_else
    claim_refusal t division claimed

-- hand plan, by the numbers of its loads
abbrev pub hand_by : LoadNumbers → HandInput → ℕ
hand_by loads i =
    survey_refusal i.town i.k
    (plan_kind_refusal i.kind i.town.n i.k or_else length_refusal (length i.division) i.town.n or_else loads.lengths) or_else
    sent_refusal i.town i.division i.claimed (lowest_site i.kind) (usage_refusal i.kind i.town.n i.town.m i.k i.division) loads

abbrev pub hand_refusal : HandInput → ℕ
hand_refusal i = hand_by (load_numbers i.town i.division i.loads) i

-- its cases: free hand plan
abbrev pub free_hand_by : LoadNumbers → HandInput → ℕ
free_hand_by loads i =
    survey_refusal i.town i.k (length_refusal (length i.division) i.town.n or_else loads.lengths) or_else
    sent_refusal i.town i.division i.claimed 0 (used_refusal i.town.m i.k i.division) loads

-- and balanced hand plan
abbrev pub balanced_hand_by : LoadNumbers → HandInput → ℕ
balanced_hand_by loads i =
    survey_refusal i.town i.k (balance_refusal i.town.n i.k i.division or_else loads.lengths) or_else
    sent_refusal i.town i.division i.claimed 1 (shares_refusal i.town.n i.town.m i.k i.division) loads

-- no load and no limit of a hand plan is refused
pub record LoadsTaken (t : Town) (loads : Loads) : Type 0 where
  pub lengths : lengths_refusal t.n t.m loads ≡ 0
  pub above : loads_refusal loads ≡ 0

-- reading a file into a row buffer, a score buffer and a weight buffer
abbrev pub read_refusal : ReadInput → ℕ
read_refusal i =
    length_refusal (length i.rows) most_rows or_else
    length_refusal (length i.scores) most_sites or_else
    length_refusal (length i.weights) most_streets or_else
    file_refusal i.file

-- 7: the buffer is shorter than the file that it is for
abbrev pub room_refusal : List ℕ → List ℕ → ℕ
room_refusal buffer file = 7 when ltb (length buffer) (length file)

-- writing a file: the survey, 25 for a weight that it would lose, and 7
abbrev pub write_refusal : WriteInput → ℕ
write_refusal i =
    survey_refusal i.filed.town i.filed.k (kind_refusal i.filed.kind) or_else
    form_refusal i.filed.new_form i.filed.town.weights or_else
    room_refusal i.file (encode i.filed)

-- converting a file: as the reader tries it, then 25 and 7
abbrev pub convert_refusal : ConvertInput → ℕ
convert_refusal i =
    file_refusal i.file or_else
    form_refusal i.wanted (town_in i.file).weights or_else
    room_refusal i.buffer (converted i.wanted i.file)
