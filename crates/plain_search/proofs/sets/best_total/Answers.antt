use Rattle.std.proofs.Common.{rules}
use Rattle.std.proofs.iter.runs.Sources.{ranges}
use Rattle.plain_search.proofs.sets.best_total.Goals as goal

pub returns : goal.returns
returns c = search (rules, ranges)
