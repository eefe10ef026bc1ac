use Rattle.balanced_rounds.proofs.Walked.{Giving}
use Rattle.balanced_rounds.proofs.walks.give_lot.Given as goal

abbrev pub invariant-loop-s : goal.invariant-loop-s
invariant-loop-s l = Giving l.a l.line l.before l.initial.division l.q l.s-index l.left l.division
