-- What a line of the table says of the definitions: as equations, and as a test that is computed.
-- Assumes nothing.
use Rattle.std.specs.Prelude.{ℕ, suc, ◌-◌, ◌*◌, ◌^◌, ◌≤◌, ◌≡◌, Bool, true, false, ◌&&◌, List, [], ◌∷◌, leb, eqb, length, replicate}
use Rattle.counting.specs.Words.{◌when◌}
use Rattle.counting.specs.Buffers.{after}
use Rattle.balanced_plan.specs.Floor.{depth}
use Rattle.survey.specs.Town.{Town, town_of, plain_town}
use Rattle.survey.specs.Rows.{counted_of}
use Rattle.survey_file.specs.Filed.{filed_of}
use Rattle.survey_file.specs.Encode.{encode}
use Rattle.survey_file.specs.Decode.{file_refusal, form_in, town_in, chosen_in, kind_in}
use Rattle.survey_file.specs.FileBuffers.{file_converted}
use Rattle.loads.specs.Loads.{Loads, loads_of, most_load}
use Rattle.refusals.specs.Inputs.{SurveyInput, survey_of, row_input_of, list_input_of, division_of, plan_of, hand_of, write_of, convert_of}
use Rattle.refusals.specs.Refusals.{check_refusal, row_score_refusal, list_total_refusal, free_division_refusal, balanced_division_refusal, plan_refusal}
use Rattle.refusals.specs.Refusals.{floor_refusal, hand_refusal, write_refusal, convert_refusal}
use Rattle.plans.specs.Plans.{list_total, free_division, free_sites, plan_total, balanced_division, balanced_rounds, Plan, plan_of_kind, plan_floor}

-- a town with the number of sites to choose: n, m, K, scores, weights, rows
abbrev pub weighed : ℕ → ℕ → ℕ → List ℕ → List ℕ → List ℕ → SurveyInput
weighed n m k scores weights rows = survey_of (town_of n m scores weights rows) k

-- the same where every street has the weight 1: n, m, K, scores, rows
abbrev pub survey : ℕ → ℕ → ℕ → List ℕ → List ℕ → SurveyInput
survey n m k scores rows = survey_of (plain_town n m scores rows) k

-- the first number after a survey or its like is the refusal's; then come the total and the buffers afterwards
pub data Line : Type 0 where
  Check : SurveyInput → ℕ → Line
  -- one row: m, scores, weight, row, site
  WeighedRow : ℕ → List ℕ → ℕ → List ℕ → ℕ → ℕ → ℕ → Line
  ListTotal : SurveyInput → List ℕ → ℕ → ℕ → Line
  FreeDivision : SurveyInput → List ℕ → ℕ → ℕ → List ℕ → Line
  BalancedDivision : SurveyInput → List ℕ → ℕ → ℕ → List ℕ → Line
  -- the plan of a kind
  OfKind : ℕ → SurveyInput → ℕ → ℕ → List ℕ → List ℕ → Line
  -- total and division after the rounds
  Rounds : SurveyInput → ℕ → List ℕ → Line
  Floor : SurveyInput → ℕ → ℕ → Line
  -- the places p of the rounds: m, K, places
  Places : ℕ → ℕ → List ℕ → Line
  -- a hand plan of a kind: survey, division, claimed total, loads
  Loaded : ℕ → SurveyInput → List ℕ → ℕ → Loads → ℕ → Line
  -- the free plan's bound against a list of K sites: K ^ K * (T - S) ≤ (K - 1) ^ K * T, where T - S and T are as given
  Bound : SurveyInput → List ℕ → ℕ → ℕ → Line
  -- whether a file has the new form, a survey with its kind, and the file
  FileOf : Bool → SurveyInput → ℕ → List ℕ → Line
  Read : List ℕ → ℕ → Line
  -- the form, the survey with its kind, and the room for its file
  WriteOf : Bool → SurveyInput → ℕ → ℕ → ℕ → Line
  -- a file, the form that is wanted, and the buffer afterwards
  Convert : List ℕ → Bool → ℕ → List ℕ → Line

-- what a line says is a list of facts: two numbers are equal, two lists are, or a number is at most another
pub data Fact : Type 0 where
  Number : ℕ → ℕ → Fact
  Bytes : List ℕ → List ℕ → Fact
  AtMost : ℕ → ℕ → Fact

-- what the lent buffers hold before the call
abbrev pub blank : ℕ → List ℕ
blank n = replicate n 99

-- the loads of a plan that has none: its streets bring nothing, and every limit is the greatest one
abbrev pub unloaded : Town → Loads
unloaded t = loads_of (replicate t.n 0) (replicate t.n 0) (replicate t.m most_load) (replicate t.m most_load)

-- a hand plan of a kind without loads
abbrev pub Hand : ℕ → SurveyInput → List ℕ → ℕ → ℕ → Line
Hand kind i division claimed x = Loaded kind i division claimed (unloaded i.town) x

-- one row of a street whose weight is 1: m, scores, row, site
abbrev pub RowScore : ℕ → List ℕ → List ℕ → ℕ → ℕ → ℕ → Line
RowScore m scores = WeighedRow m scores 1

-- the two kinds
abbrev pub FreePlan : SurveyInput → ℕ → ℕ → List ℕ → List ℕ → Line
FreePlan = OfKind 0

abbrev pub BalancedPlan : SurveyInput → ℕ → ℕ → List ℕ → List ℕ → Line
BalancedPlan = OfKind 1

abbrev pub FreeHand : SurveyInput → List ℕ → ℕ → ℕ → Line
FreeHand = Hand 0

abbrev pub BalancedHand : SurveyInput → List ℕ → ℕ → ℕ → Line
BalancedHand = Hand 1

abbrev pub FreeLoaded : SurveyInput → List ℕ → ℕ → Loads → ℕ → Line
FreeLoaded = Loaded 0

abbrev pub BalancedLoaded : SurveyInput → List ℕ → ℕ → Loads → ℕ → Line
BalancedLoaded = Loaded 1

-- the old form and the new one
abbrev pub File : SurveyInput → ℕ → List ℕ → Line
File = FileOf false

abbrev pub NewFile : SurveyInput → ℕ → List ℕ → Line
NewFile = FileOf true

abbrev pub Write : SurveyInput → ℕ → ℕ → ℕ → Line
Write = WriteOf false

abbrev pub WriteNew : SurveyInput → ℕ → ℕ → ℕ → Line
WriteNew = WriteOf true

-- a call's number, and the total that comes with it
abbrev pub reported : ℕ → ℕ → ℕ → ℕ → List Fact → List Fact
reported refusal number given total rest = Number refusal number ∷ Number (given when eqb refusal 0) total ∷ rest

-- the places p from the round i on
abbrev pub places : ℕ → ℕ → ℕ → List ℕ → List Fact
places m k i [] = Number i k ∷ []
places m k i (p ∷ rest) = Number (depth m k i) p ∷ places m k (suc i) rest

abbrev pub facts : Line → List Fact
facts (Check i x) = Number (check_refusal i) x ∷ []
facts (WeighedRow m scores weight row site x score) =
    reported (row_score_refusal (row_input_of m scores weight row site)) x (counted_of weight scores row site) score []
facts (ListTotal i sites x total) = reported (list_total_refusal (list_input_of i.town sites)) x (list_total i.town sites) total []
facts (FreeDivision i sites x total division) =
    let old : List ℕ = blank i.town.n in
    let r : ℕ = free_division_refusal (division_of i.town sites old) in
    reported r x (list_total i.town sites) total (Bytes (after r (free_division i.town sites) old) division ∷ [])
facts (BalancedDivision i sites x total division) =
    let old : List ℕ = blank i.town.n in
    let r : ℕ = balanced_division_refusal (division_of i.town sites old) in
    let d : List ℕ = balanced_division i.town sites in
    reported r x (plan_total i.town d) total (Bytes (after r d old) division ∷ [])
facts (OfKind kind i x total division chosen) =
    let r : ℕ = plan_refusal (plan_of i.town i.k kind (blank i.town.n) (blank i.k)) in
    let p : Plan = plan_of_kind kind i.town i.k in
    reported r x p.reported total
    (Bytes (after r p.division (blank i.town.n)) division ∷ Bytes (after r p.sites (blank i.k)) chosen ∷ [])
facts (Rounds i total division) =
    let d : List ℕ = (balanced_rounds i.town i.k).division in
    Number (plan_total i.town d) total ∷ Bytes d division ∷ []
facts (Floor i x total) = reported (floor_refusal i) x (plan_floor i.town i.k) total []
facts (Places m k list) = places m k 0 list
facts (Loaded kind i division claimed loads x) = Number (hand_refusal (hand_of i.town i.k kind division claimed loads)) x ∷ []
facts (Bound i other missing reached) =
    let k : ℕ = i.k in
    let t : ℕ = list_total i.town other in
    let s : ℕ = list_total i.town (free_sites i.town k) in
    Number (t - s) missing ∷ Number t reached ∷ Number (length other) k ∷ AtMost (k ^ k * missing) ((k - 1) ^ k * reached) ∷ []
facts (FileOf new_form i kind file) =
    let read : Town = town_in file in
    Bytes (encode (filed_of new_form i.town i.k kind)) file ∷ Number (file_refusal file) 0 ∷ Number (1 when form_in file) (1 when new_form) ∷
    Number read.n i.town.n ∷ Number read.m i.town.m ∷ Number (chosen_in file) i.k ∷ Number (kind_in file) kind ∷
    Bytes read.scores i.town.scores ∷ Bytes read.weights i.town.weights ∷ Bytes read.rows i.town.rows ∷ []
facts (Read file x) = Number (file_refusal file) x ∷ []
facts (WriteOf new_form i kind room x) = Number (write_refusal (write_of (filed_of new_form i.town i.k kind) (blank room))) x ∷ []
facts (Convert file wanted x buffer) =
    let old : List ℕ = blank (length buffer) in
    let r : ℕ = convert_refusal (convert_of file wanted old) in
    Number r x ∷ Bytes (after r (file_converted wanted file old) old) buffer ∷ []

-- ---- what a line says, as equations
abbrev pub Says : Fact → Type 0
Says (Number x y) = x ≡ y
Says (Bytes a b) = a ≡ b
Says (AtMost x y) = x ≤ y

abbrev pub AllSay : List Fact → Type 0
AllSay [] = Unit {0}
AllSay (fact ∷ rest) = Says fact × AllSay rest

abbrev pub Holds : Line → Type 0
Holds line = AllSay (facts line)

abbrev pub AllHold : List Line → Type 0
AllHold [] = Unit {0}
AllHold (line ∷ lines) = Holds line × AllHold lines

-- ---- and as a test that the checker computes, for all lines at once
abbrev pub same : List ℕ → List ℕ → Bool
same [] [] = true
same [] (b ∷ other) = false
same (a ∷ list) [] = false
same (a ∷ list) (b ∷ other) = eqb a b && same list other

abbrev pub test : Fact → Bool
test (Number x y) = eqb x y
test (Bytes a b) = same a b
test (AtMost x y) = leb x y

abbrev pub tests : List Fact → Bool
tests [] = true
tests (fact ∷ rest) = test fact && tests rest

abbrev pub test_lines : List Line → Bool
test_lines [] = true
test_lines (line ∷ lines) = tests (facts line) && test_lines lines
