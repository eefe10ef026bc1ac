use mathlib.Core.Path.{sym, ap, ◌∙◌}
use mathlib.Core.List.{List, ◌∷◌, [], ◌++◌}
use Prim.Native.Nat.{ℕ, ◌+◌}
use native.Mathlib.Omega.{arith}
use lib.ListN.{get_or}
use Rattle.counting.proofs.Sums.{take_next}
use Rattle.free_rounds.specs.Scored.{scored}
use Rattle.free_rounds.proofs.Rounded.{start-holds}
use Rattle.free_rounds.proofs.taken.Goals as goal

pub loop-site-init : goal.loop-site-init
loop-site-init c =
    let t = c.args.table in
    start-holds (scored t) t.n c.empty-state.result t.site_table.few-streets c.empty-state.ensures

pub loop-site-preserved : goal.loop-site-preserved
loop-site-preserved c =
    let sites = c.args.sites.now in
    let l = c.loop-site in
    let t = c.taking-state.ensures in (
      t.sites.0 ∙ ap (λ (x : ℕ). x + 1) l.invariant.0,
      t.sites.1 ∙ ap (λ (S : List ℕ). S ++ (get_or sites l.site-index 0 ∷ [])) l.invariant.1 ∙ sym (take_next sites l.site-index (omega arith)),
      t.held,
      λ v low. t.bounds v (l.invariant.3 v low),
    )
