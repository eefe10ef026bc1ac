use mathlib.Core.Path.{◌≡◌}
use Prim.Native.Nat.{◌*◌, ◌≤◌}
use Rattle.counting.specs.Bounds.{most_total}
use Rattle.counting.specs.Words.{sum_of}
use Rattle.survey.specs.Rows.{score_at}
use Rattle.shares.specs.Rounds.{round_share}
use Rattle.balanced_plan.specs.Floor.{added}
use Rattle.floors.proofs.Rounds.plain_floor.Given as goal

abbrev pub invariant-loop-i : goal.invariant-loop-i
invariant-loop-i l = let r = l.self in let t = r.town.town in
    (l.total ≡ sum_of l.i (added (round_share t.n r.k) (score_at t.scores.now) r.t t.m r.k)) × (l.total ≤ l.i * most_total)
