use native.Mathlib.Omega.{arith}
use Rattle.free_rounds.proofs.RoundLoops.{counted-small}
use Rattle.free_rounds.proofs.rounds.Goals as goal

pub loop-i-init : goal.loop-i-init
loop-i-init c =
    let t = c.args.table in
    let taken = c.taken-state.ensures in
    (omega (arith, taken.sites.0), taken.sites.1, taken.held, taken.bounds _ (λ s a. counted-small (t.weighed.small s) (t.site_table.small _)))
