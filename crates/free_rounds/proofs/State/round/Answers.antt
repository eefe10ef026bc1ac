use mathlib.Core.Path.{ap, ◌∙◌}
use mathlib.Core.List.{[], ◌∷◌, ◌++◌}
use Prim.Native.Nat.{ℕ, ◌≤◌}
use native.Mathlib.Omega.{arith}
use lib.Seq.{length-take-le}
use Rattle.counting.proofs.Greatest.{chosen-le}
use Rattle.free_rounds.specs.Held.{sites_of}
use Rattle.free_rounds.specs.Weighed.{weight_of}
use Rattle.free_rounds.specs.Scored.{counted}
use Rattle.free_rounds.proofs.Rounded.{bests-small, choice-is, bounds-out, bounds-back, held-bounds}
use Rattle.free_rounds.proofs.State.round.Goals as goal

pub choose-site-requires : goal.choose-site-requires
choose-site-requires c =
    let t = c.args.table in
    let held = c.requires.held.0 in
    record {
      scores = (
        length-take-le t.n c.args.self.bests (omega (arith, t.site_table.few-streets, held.bests-size)),
        bests-small _ t.n _ held (λ s a. t.site_table.small _),
        held.flags.size,
      );
      bounded = bounds-out (weight_of t.weights) t.values.now held c.args.self.bounds c.requires.held.1;
    }

pub overflow_cast-site : goal.overflow_cast-site
overflow_cast-site c =
    let low : c.choose-site.result ≤ c.args.table.m = chosen-le _ _ c.args.table.m _ c.choose-site.ensures.site in
    omega (arith, low, c.args.table.site_table.few-sites)

pub taking-self-requires : goal.taking-self-requires
taking-self-requires c =
    let few = c.args.table.site_table.few-sites in
    record {
      held = held-bounds _ c.requires.held.0;
      site_le_m = (chosen-le _ _ c.args.table.m _ c.choose-site.ensures.site, omega (arith, few, c.requires.count_lt_m));
    }

pub returns : goal.returns
returns c =
    let t = c.args.table in
    let more = c.taking-self.ensures in
    let held = c.requires.held.0 in
    let site = c.choose-site.ensures.site ∙ choice-is (weight_of t.weights) t.values.now held t.m t.site_table.few-sites in
    let bounds = bounds-back (weight_of t.weights) t.values.now held _ c.choose-site.ensures.bounds in
    record {
      sites = (more.sites.0, more.sites.1 ∙ ap (λ (x : ℕ). sites_of c.args.self ++ (x ∷ [])) site);
      held = (more.held, more.bounds (counted t) bounds);
    }
