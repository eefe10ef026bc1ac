use mathlib.Core.Path.{refl, ap, ◌∙◌}
use Prim.Native.Nat.{◌<◌}
use mathlib.Core.List.{List}
use Prim.Native.Nat.{ℕ}
use native.Mathlib.Omega.{arith}
use Rattle.counting.specs.Lists.{at}
use Rattle.free_rounds.proofs.Rounded.{held_more, bounds-more, sites-more}
use Rattle.free_rounds.proofs.RoundLoops.{row-value}
use Rattle.free_rounds.proofs.State.taking.Goals as goal

pub returns : goal.returns
returns c =
    let t = c.args.table in
    let held = c.requires.held in
    let room = c.requires.site_le_m.1 in
    let site = c.args.site in
    let low : site < 256 = omega (arith, c.requires.site_le_m.0, t.site_table.few-sites) in
    let row = λ (s : ℕ) (l : s < t.n). ap (λ (L : List ℕ). at L s) c.row.ensures ∙ row-value t.site_table c.requires.site_le_m.0 s l in
    record {
      sites = (refl, sites-more held room site);
      held = held_more held room site c.row.result.now low t.site_table.few-streets row c.raise.ensures;
      bounds = bounds-more held room site;
    }
