use native.Mathlib.Omega.{arith}
use lib.ListN.{length}
use Rattle.counting.specs.Lists.{at}
use Rattle.survey_file.specs.Encode.{word}
use Rattle.counting.proofs.Laying.{written_next, turns-none, turns-room, turns_more, turns-all}
use Rattle.file_writer.proofs.records.write_scores.Goals as goal

pub loop-score-init : goal.loop-score-init
loop-score-init c = let w = c.write_word-next in turns-none w.new.file w.result _ (omega arith)

pub write_word-next-requires-in-loop-score : goal.write_word-next-requires-in-loop-score
write_word-next-requires-in-loop-score c =
    let scores = c.args.scores.now in
    turns-room (λ k. word (at scores k)) c.loop-score.invariant (length scores) (omega arith) (omega arith)

pub loop-score-preserved : goal.loop-score-preserved
loop-score-preserved c = turns_more _ c.loop-score.invariant c.write_word-next-in-loop-score.ensures

pub returns : goal.returns
returns c = written_next c.write_word-next.ensures (turns-all _ c.loop-score.invariant _ (omega arith) (omega arith))
