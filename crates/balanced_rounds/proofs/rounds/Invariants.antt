use Rattle.shares.specs.Rounds.{round_share}
use Rattle.balanced_rounds.proofs.Rounding.{Played}
use Rattle.balanced_rounds.proofs.rounds.Given as goal

abbrev pub invariant-loop-i : goal.invariant-loop-i
invariant-loop-i l = let t = l.table in Played t.values.now t.orders.now t.n t.m (round_share t.n l.k) l.i l.state
