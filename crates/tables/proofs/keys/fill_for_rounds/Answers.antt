use mathlib.Core.Path.{◌∙◌}
use mathlib.Core.List.{List}
use Prim.Native.Nat.{ℕ}
use Rattle.tables.proofs.Weighed.{places-small, places-alike}
use Rattle.tables.proofs.keys.fill_for_rounds.Goals as goal

pub weigh_keys-requires : goal.weigh_keys-requires
weigh_keys-requires c =
    let placed : List ℕ = c.fill_keys.new.keys in
    let t = c.args.town in
    let p = c.requires in
    record {
      street_table = p.street_table;
      keys_len = c.fill_keys.auto.keys ∙ p.keys_len;
      by_index = places-small t.rows.now placed c.fill_keys.ensures p.ranked.few-sites;
    }

pub returns-else-not-even : goal.returns-else-not-even
returns-else-not-even c =
    let placed : List ℕ = c.fill_keys.new.keys in
    let t = c.args.town in
    let p = c.requires in
    places-alike t.rows.now placed c.fill_keys.ensures c.args.values.now p.street_table (p.falls c.if-not-even.false)
