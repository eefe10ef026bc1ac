use Rattle.balanced_rounds.proofs.Rounding.{played-none, played-more}
use Rattle.balanced_rounds.proofs.rounds.Goals as goal

pub loop-i-init : goal.loop-i-init
loop-i-init c = played-none c.args.table.street_table.few-streets c.empty-state.ensures

pub loop-i-preserved : goal.loop-i-preserved
loop-i-preserved c =
    let share = c.of_round.ensures.0 in
    played-more c.loop-i.invariant c.round-state.ensures.held (rw share at c.round-state.ensures.state)
