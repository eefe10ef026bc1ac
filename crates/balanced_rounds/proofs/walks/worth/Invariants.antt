use Rattle.tables.specs.Tables.{value_in}
use Rattle.balanced_rounds.proofs.Walked.{Adding}
use Rattle.balanced_rounds.proofs.walks.worth.Given as goal

abbrev pub invariant-loop-street : goal.invariant-loop-street
invariant-loop-street l =
    Adding (λ t. value_in l.table.values.now l.table.m t l.a) l.line l.division l.q l.street-index l.tally.left l.tally.total
