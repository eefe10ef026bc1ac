use mathlib.Core.Path.{sym, ◌∙◌}
use native.Mathlib.Omega.{arith}
use Rattle.counting.specs.Bounds.{most_width}
use Rattle.counting.proofs.Parts.{front_length, front-blank}
use Rattle.survey.specs.Town.{lent}
use Rattle.tables.proofs.Tabled.{part-blank, street-fits, street-ready, street-same}
use Rattle.balanced_results.proofs.ListShares.{problem, as-surveyed}
use Rattle.balanced_results.proofs.SurveyRounds.{chosen-shareable}
use Rattle.balanced_results.proofs.best.Goals as goal

pub fill_values-requires : goal.fill_values-requires
fill_values-requires c = part-blank (street-fits c.args.town.accepted)

pub divide-requires-clause-shares_len : goal.divide-requires-clause-shares_len
divide-requires-clause-shares_len c =
    let ok = c.args.town.accepted in
    (front_length _ most_width (omega (arith, ok.few-sites)), front-blank _ most_width (omega (arith, ok.few-sites)))

pub best-requires : goal.best-requires
best-requires c =
    let begun = c.divide.ensures.begun in
    let streets = c.divide.auto.division ∙ c.requires.division_len in
    (problem _ _ (sym streets) (street-ready c.args.town.accepted c.fill_values.ensures) begun.shared.size begun.shared.nobody, begun.divided)

pub returns : goal.returns
returns c =
    let t = lent c.args.town.town in
    let ok = c.args.town.accepted in
    let begun = c.divide.ensures.begun in
    let streets = c.divide.auto.division ∙ c.requires.division_len in
    let sites = chosen-shareable t c.args.chooser c.args.sites.now _ c.requires.listed c.divide.ensures.sites in
    let best = as-surveyed t _ (street-same ok c.fill_values.ensures) sites streets begun.shared.size begun.shared.right
    (c.best.ensures.total, c.best.ensures.division) in
    record { total = best.0; division = best.1; sites = c.divide.ensures.sites }
