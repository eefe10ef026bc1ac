use Prim.Native.Nat.{◌+◌, ◌*◌, ◌≤◌}
use Rattle.counting.specs.Buffers.{Mapped}
use Rattle.survey_file.specs.Decode.{word_at}
use Rattle.file_filling.proofs.fill_scores.Given as goal

abbrev pub invariant-loop-i : goal.invariant-loop-i
invariant-loop-i l = (l.i ≤ l.m) × Mapped (λ j x. word_at l.file (9 + 2 * j)) l.initial.scores l.scores l.i
