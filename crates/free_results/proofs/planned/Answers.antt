use Rattle.tables.proofs.Filling.{ranked}
use Rattle.tables.proofs.Tabled.{part-blank, site-fits, site-ready}
use Rattle.free_rounds.specs.Weighed.{weight_of}
use Rattle.free_results.proofs.Tabled.{sites-planned, held-planned}
use Rattle.free_results.proofs.Results.{at-most-list}
use Rattle.free_results.proofs.planned.Goals as goal

pub fill_values-requires : goal.fill_values-requires
fill_values-requires c =
    let ok = c.args.town.accepted in
    record { ranked = (ranked ok, ok.scores-fit); blank = part-blank (site-fits ok) }

pub invariant_of-table : goal.invariant_of-table
invariant_of-table c = record { site_table = site-ready c.args.town.accepted c.fill_values.ensures; weighed = c.of.ensures.weighed }

pub returns : goal.returns
returns c =
    let ok = c.args.town.accepted in
    let t = c.rounds.ensures in
    let low = at-most-list c.args.town.town.m c.args.sites.now c.requires.1 in
    record {
      sites = (
        t.sites.0,
        sites-planned ok c.fill_values.ensures (weight_of c.of.result) c.of.ensures.same c.args.k c.args.sites.now low
            c.rounds.result t.sites.1,
      );
      held = held-planned ok c.fill_values.ensures (weight_of c.of.result) c.of.ensures.same c.args.k c.args.sites.now low c.rounds.result t.sites.1 t.held;
    }
