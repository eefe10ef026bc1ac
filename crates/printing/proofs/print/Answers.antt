use mathlib.Core.Path.{◌∙◌}
use Rattle.listing.proofs.Rooms.{written_same}
use Rattle.printing.proofs.FileTexts.{blank-lengths, survey-read, refused-printed}
use Rattle.printing.proofs.print.Goals as goal

pub print_survey-requires-clause-survey_held : goal.print_survey-requires-clause-survey_held
print_survey-requires-clause-survey_held c =
    let (scores, weights, rows) = blank-lengths c.empty-empty.ensures.buffers in
    let kept = c.read_file.auto in
    record {
      asked = (survey-read c.read_file.ensures rows scores weights c.in-Ok.is).asked;
      scores-long = kept.scores ∙ scores;
      weights-long = kept.weights ∙ weights;
      rows_long = kept.rows ∙ rows;
    }

pub returns-in-Ok-clause-text : goal.returns-in-Ok-clause-text
returns-in-Ok-clause-text c =
    let (scores, weights, rows) = blank-lengths c.empty-empty.ensures.buffers in
    written_same (survey-read c.read_file.ensures rows scores weights c.in-Ok.is).text c.print_survey.ensures

pub returns-in-Err-clause-text : goal.returns-in-Err-clause-text
returns-in-Err-clause-text c =
    let (scores, weights, rows) = blank-lengths c.empty-empty.ensures.buffers in
    written_same (refused-printed c.read_file.ensures rows scores weights c.in-Err.is) c.write_refused.ensures
