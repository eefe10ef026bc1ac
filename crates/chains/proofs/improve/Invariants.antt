use mathlib.Core.Path.{◌≡◌}
use Prim.Native.Nat.{◌*◌, ◌<◌, ◌-◌}
use lib.ListN.{length}
use Rattle.counting.specs.Bounds.{most_value}
use Rattle.division.specs.Shares.{division_total}
use Rattle.pairs.specs.BestMoves.{value_of}
use Rattle.chains.specs.Chains.{Searched}
use Rattle.chains.proofs.Improving.{Improving}
use Rattle.chains.proofs.improve.Given as goal

abbrev pub invariant-search : goal.invariant-search
invariant-search l = (l.division ≡ l.initial.division) × (l.k < length l.problem.shares.now)
    × Improving l.problem.values.now l.problem.shares.now l.division l.low l.prices l.vias l.moves.pairs l.moves.gains
    × Searched l.problem.values.now l.problem.shares.now l.division (length l.problem.shares.now) l.k l.low l.prices l.vias

abbrev pub decreases-search : goal.decreases-search
decreases-search l = length l.problem.shares.now - l.k

abbrev pub invariant-improve : goal.invariant-improve
invariant-improve l = (length l.division ≡ length l.initial.division)
    × Improving l.problem.values.now l.problem.shares.now l.division l.low l.prices l.vias l.moves.pairs l.moves.gains

abbrev pub decreases-improve : goal.decreases-improve
decreases-improve l = length l.initial.division * most_value - division_total (value_of l.problem) l.division
