use Rattle.compact.proofs.BestByNumbers.{few-table}
use Rattle.compact.proofs.best.Goals as goal

pub best_of_few-requires-clause-table_len : goal.best_of_few-requires-clause-table_len
best_of_few-requires-clause-table_len c = few-table c.requires.0 c.of-numbering.result.count c.of-numbering.ensures.fewer
