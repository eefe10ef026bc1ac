use Prim.Native.Nat.{◌+◌, ◌*◌}
use Rattle.survey.specs.Rows.{score_at}
use Rattle.tables.proofs.Filling.{Passed}
use Rattle.tables.proofs.by_street.fill_street.Given as goal

abbrev pub invariant-loop-j : goal.invariant-loop-j
invariant-loop-j l = Passed (λ p. l.weight * score_at l.scores p) (λ a. l.from + a) l.row l.initial.values l.values l.j
