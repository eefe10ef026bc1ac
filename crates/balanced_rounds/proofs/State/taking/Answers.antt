use mathlib.Core.Path.{refl}
use Rattle.balanced_rounds.proofs.Rounding.{Given, held_more, taken_more}
use Rattle.balanced_rounds.proofs.State.taking.Goals as goal

pub returns : goal.returns
returns c =
    let t = c.args.table in
    let p = c.requires in
    let given : Given t.n t.m c.args.self c.args.site c.give_lot.new.division = record {
      well = p.0;
      room = p.1;
      low = p.2;
      few-sites = t.street_table.few-sites;
      few-streets = t.street_table.few-streets;
      size = c.give_lot.auto.division;
    } in
    record { held = (held_more given, refl); state = λ key o. taken_more given c.args.q key t.orders.now o (rw c.line.ensures at c.give_lot.ensures) }
