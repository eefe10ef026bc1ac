use lib.ListN.{get_or}
use mathlib.Core.Bool.{false}
use Rattle.counting.specs.Buffers.{Mapped}
use Rattle.survey.specs.Rows.{row_at, ranked_part}
use Rattle.free_plan.specs.Greedy.{goes_to}
use Rattle.free_results.proofs.serve.serve.Given as goal

abbrev pub invariant-loop-s : goal.invariant-loop-s
invariant-loop-s l = let t = l.town.town in
    Mapped (λ u x. goes_to (λ a. get_or l.flags a false) (ranked_part (row_at t.m t.rows.now u))) l.initial.division l.division l.s
