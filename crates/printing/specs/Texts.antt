-- What the plan program prints for a survey file: the listing of the file's plan, or the line of the first refusal.
-- Assumes nothing.
use Rattle.std.specs.Prelude.{ℕ, zero, suc, List, Result, Ok, Err}
use Rattle.survey.specs.Town.{Town}
use Rattle.survey_file.specs.Decode.{file_refusal, town_in, chosen_in, kind_in}
use Rattle.plans.specs.Plans.{Plan, plan_of_kind}
use Rattle.refusals.specs.Refusals.{plan_kind_refusal}
use Rattle.call_answers.specs.declared.Refusal.{Refusal}
use Rattle.call_answers.specs.Answers.{number_of}
use Rattle.listing.specs.Listing.{listing, refused_line}

-- the listing of a plan of a town
abbrev pub plan_listing : Town → Plan → List ℕ
plan_listing t p = listing t.m t.rows p.reported p.sites p.division

-- a text, or the line of the refusal that comes in its place
abbrev pub unless_refused : ℕ → List ℕ → List ℕ
unless_refused zero text = text
unless_refused (suc x) text = refused_line (suc x)

-- the text of a plan's answer, with the sites and the division that came with it
abbrev pub answer_text : Result ℕ Refusal → ℕ → List ℕ → List ℕ → List ℕ → List ℕ
answer_text (Ok total) m rows sites division = listing m rows total sites division
answer_text (Err x) m rows sites division = refused_line (number_of x)

-- the text of an accepted survey: the listing of the plan of its kind, or the line of what that kind is refused for
unfoldable pub plan_text : Town → ℕ → ℕ → List ℕ
plan_text t k kind = unless_refused (plan_kind_refusal kind t.n k) (plan_listing t (plan_of_kind kind t k))

-- what is printed for a file: the line of its first refusal, or the text of the survey that it holds
unfoldable pub printed : List ℕ → List ℕ
printed file = unless_refused (file_refusal file) (plan_text (town_in file) (chosen_in file) (kind_in file))
