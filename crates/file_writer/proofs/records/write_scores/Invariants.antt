use Rattle.counting.specs.Lists.{at}
use Rattle.counting.specs.Buffers.{joined, Written}
use Rattle.survey_file.specs.Encode.{word}
use Rattle.file_writer.proofs.records.write_scores.Given as goal

abbrev pub invariant-loop-score : goal.invariant-loop-score
invariant-loop-score l = Written l.initial.file l.initial.next (joined l.score-index (λ k. word (at l.scores k))) l.file l.next
