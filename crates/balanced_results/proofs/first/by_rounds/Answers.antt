use mathlib.Core.Path.{ap, ◌∙◌}
use lib.ListN.{length}
use Rattle.survey.specs.Town.{lent}
use Rattle.survey.specs.Rows.{value}
use Rattle.balanced_plan.specs.Rounds as plan
use Rattle.plans.specs.Plans.{street_key}
use Rattle.balanced_results.proofs.SurveyRounds.{rounds-shareable, rounds-begun}
use Rattle.balanced_results.proofs.first.by_rounds.Goals as goal

pub share_out-requires : goal.share_out-requires
share_out-requires c =
    let t = lent c.args.valued.town.town in
    let p = c.requires in
    let chosen = c.copy_from_slice.ensures.after ∙ c.sites.ensures ∙ ap (λ (x : plan.State). x.chosen) c.play-state.ensures.state in
    let ready = rounds-shareable (value t) (street_key t) t.n t.m (length c.args.sites.now) p.sites_len.0 p.sites_len.1 chosen in
    record { few = c.args.valued.town.accepted.few-streets; within = ready.sites; apart = ready.apart; size = p.shares_len.0; none = p.shares_len.1 }

pub returns : goal.returns
returns c =
    let t = lent c.args.valued.town.town in
    let p = c.requires in
    let end = c.play-state.ensures.state in
    let chosen = c.copy_from_slice.ensures.after ∙ c.sites.ensures ∙ ap (λ (x : plan.State). x.chosen) end in
    let division = c.copy_from_slice-2.ensures.after ∙ ap (λ (x : plan.State). x.division) end in
    let begun = rounds-begun (value t) (street_key t) t.n t.m (length c.args.sites.now) p.sites_len.0 p.sites_len.1 chosen division c.share_out.ensures in
    record { begun = begun; sites = chosen }
