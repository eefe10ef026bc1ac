use Rattle.file_converter.proofs.Converting.{pieces-written}
use Rattle.file_converter.proofs.put_together.Goals as goal

pub returns : goal.returns
returns c =
    let a = c.args in
    (pieces-written a.file.now a.m a.weights.now a.streets a.wanted c.town_mark.ensures
    c.write_word-behind_mark.ensures c.write_list-behind_scores.ensures c.write_weights-behind_weights.ensures c.write_list.ensures).right
