-- The kinds of plan.
-- Assumes nothing.
use Rattle.std.specs.Prelude.{ℕ, zero, suc, ◌≡◌, ◌<◌, Result, MatchResult}
use Rattle.call_answers.specs.Answers.{number_of}
use Rattle.call_answers.specs.declared.Refusal.{Refusal}
use Rattle.survey.specs.declared.Kind.{Kind}
use Rattle.survey.specs.declared.Kind.TheVariants as plan_kind

-- what goes by the kind, 0 free and 1 balanced: the one of two that is the kind's
abbrev pub by_kind : {A : Type 0} → ℕ → A → A → A
by_kind zero free balanced = free
by_kind (suc kind) free balanced = balanced

-- the number of a kind
abbrev pub kind_number : Kind → ℕ
kind_number plan_kind.Free = 0
kind_number plan_kind.Balanced = 1

-- a number gives its kind, or is above 1 and refused by 4
abbrev pub Decodes : ℕ → Result Kind Refusal → Type 0
Decodes x r = MatchResult r (λ kind. kind_number kind ≡ x) (λ e. (number_of e ≡ 4) × (1 < x))
