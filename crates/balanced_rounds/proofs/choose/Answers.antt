use mathlib.Core.Path.{◌∙◌}
use native.Mathlib.Omega.{arith}
use Rattle.counting.specs.Bounds.{most_width}
use Rattle.counting.proofs.Greatest.{chosen-le}
use Rattle.counting.proofs.Parts.{front_length}
use Rattle.balanced_rounds.proofs.Rounding.{chosen-worth}
use Rattle.balanced_rounds.proofs.choose.Goals as goal

pub fill_worths-requires-clause-flags_len : goal.fill_worths-requires-clause-flags_len
fill_worths-requires-clause-flags_len c = (c.requires.2, front_length _ most_width (omega (arith, c.args.table.street_table.few-sites)))

pub best_site-requires : goal.best_site-requires
best_site-requires c =
    let few = c.args.table.street_table.few-sites in
    (c.fill_worths.auto.worths ∙ front_length _ most_width (omega (arith, few)), c.requires.2, few)

pub returns : goal.returns
returns c =
    let size = c.fill_worths.auto.worths ∙ front_length _ most_width (omega (arith, c.args.table.street_table.few-sites)) in
    record {
      site = chosen-le _ _ c.args.table.m _ c.best_site.ensures;
      choice = λ key o. c.best_site.ensures ∙ chosen-worth c.args.table (record { size = size; each = c.fill_worths.ensures }) c.requires.0 key o;
    }
