use mathlib.Core.Path.{◌∙◌}
use Rattle.survey.specs.Rows.{score_at}
use Rattle.floors.proofs.FloorSteps.{sure-none, sure-score}
use Rattle.floors.proofs.Rounds.sure.Goals as goal

pub returns-then-self-place : goal.returns-then-self-place
returns-then-self-place c =
    let r = c.args.self in
    let t = r.town.town in
    sure-none (score_at t.scores.now) r.t t.m r.k c.args.i _ (c.from.ensures ∙ c.at.ensures) c.if-self-place.true

pub returns : goal.returns
returns c =
    let r = c.args.self in
    let t = r.town.town in
    sure-score (score_at t.scores.now) r.t t.m r.k c.args.i _ (c.from.ensures ∙ c.at.ensures) _ c.if-self-place.false c.score_at.ensures
