use mathlib.Core.Path.{◌∙◌}
use Rattle.floors.proofs.FloorSteps.{added_is}
use Rattle.floors.proofs.Rounds.added.Goals as goal

-- what the two calls gave makes what the round adds
pub returns : goal.returns
returns c =
    let r = c.args.self in
    let t = r.town.town in
    added_is t.scores.now t.n r.t t.m r.k c.args.i _ _ r.town.accepted.sound-scores r.town.accepted.few-streets
    c.of_round-share.ensures (c.from.ensures ∙ c.sure.ensures)
