use mathlib.Core.Path.{◌≡◌}
use Rattle.counting.specs.Words.{first_nonzero}
use Rattle.survey.specs.Refusals.{street_refusal}
use Rattle.survey_check.proofs.check.try_rows.Given as goal

abbrev pub invariant-loop-s : goal.invariant-loop-s
invariant-loop-s l = first_nonzero l.s (street_refusal l.town.m l.town.rows.now) ≡ 0
