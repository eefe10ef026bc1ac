use Rattle.survey.specs.Rows.{score_at}
use Rattle.tables.specs.Entries.{by_site}
use Rattle.tables.proofs.Filling.{Passed}
use Rattle.tables.proofs.by_site.fill_street.Given as goal

abbrev pub invariant-loop-j : goal.invariant-loop-j
invariant-loop-j l = Passed (score_at l.scores) (λ a. by_site l.n a l.s) l.row l.initial.values l.values l.j
