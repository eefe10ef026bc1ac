use mathlib.Core.Path.{◌≡◌}
use mathlib.Core.Bool.{false}
use lib.ListN.{get_or, drop}
use Rattle.survey.specs.Rows.{ranked_part}
use Rattle.free_plan.specs.Greedy.{goes_to}
use Rattle.free_results.proofs.serve.first_flagged.Given as goal

abbrev pub invariant-loop-site : goal.invariant-loop-site
invariant-loop-site l =
    goes_to (λ a. get_or l.flags a false) (ranked_part l.row) ≡ goes_to (λ a. get_or l.flags a false) (ranked_part (drop l.site-index l.row))
