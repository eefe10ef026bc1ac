use Prim.Native.Nat.{◌≤◌, ◌+◌, ◌*◌}
use Rattle.plain_files.proofs.writing.put_scores.Given as goal

abbrev pub invariant-loop-score : goal.invariant-loop-score
invariant-loop-score l = l.next ≤ 9 + 2 * l.score-index
