use Prim.Native.Nat.{◌≤◌, ◌+◌, ◌*◌}
use Rattle.drawn_towns.proofs.draw_scores.Given as goal

-- Assumes nothing.
abbrev pub invariant-loop-entry : goal.invariant-loop-entry
invariant-loop-entry l = l.score ≤ 2 + 200 * l.entry-index
