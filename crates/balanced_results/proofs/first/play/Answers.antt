use mathlib.Core.Path.{◌∙◌}
use Rattle.counting.specs.Bounds.{most_entries}
use Rattle.counting.proofs.Parts.{front_length}
use Rattle.tables.proofs.Filling.{ranked}
use Rattle.tables.proofs.Tabled.{site-fits, street-ready}
use Rattle.balanced_results.proofs.SurveyRounds.{values-fall, lines-ready, falling-ready, rounds-surveyed}
use Rattle.balanced_results.proofs.first.play.Goals as goal

pub fill_for_rounds-requires : goal.fill_for_rounds-requires
fill_for_rounds-requires c =
    let v = c.args.valued in
    let ok = v.town.accepted in
    record {
      ranked = ranked ok;
      street_table = street-ready ok v.filled;
      falls = λ even. values-fall ok v.filled (c.even.ensures even);
      keys_len = front_length _ most_entries (site-fits ok);
    }

pub fill_orders-requires : goal.fill_orders-requires
fill_orders-requires c =
    let ok = c.args.valued.town.accepted in
    let blank = front_length _ most_entries (site-fits ok) in
    (ok.few-streets, ok.few-sites, c.fill_for_rounds.auto.keys ∙ blank, blank)

pub invariant_of-table : goal.invariant_of-table
invariant_of-table c =
    let v = c.args.valued in
    let ok = v.town.accepted in
    let size = c.fill_orders.auto.orders ∙ front_length _ most_entries (site-fits ok) in
    record {
      street_table = street-ready ok v.filled;
      lines = lines-ready ok v.filled _ _ c.fill_for_rounds.ensures size c.fill_orders.ensures;
      falling = falling-ready ok v.filled _ _ c.fill_for_rounds.ensures size c.fill_orders.ensures;
    }

pub returns-clause-state : goal.returns-clause-state
returns-clause-state c =
    let v = c.args.valued in
    let ok = v.town.accepted in
    let size = c.fill_orders.auto.orders ∙ front_length _ most_entries (site-fits ok) in
    rounds-surveyed ok v.filled _ _ c.fill_for_rounds.ensures size c.fill_orders.ensures c.args.k c.rounds.ensures.state
