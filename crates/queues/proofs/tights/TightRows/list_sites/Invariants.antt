use Rattle.queues.specs.Priced.{value_of, price_of}
use Rattle.queues.specs.Tights.{Listed}
use Rattle.queues.proofs.tights.TightRows.list_sites.Given as goal

abbrev pub invariant-loop-y : goal.invariant-loop-y
invariant-loop-y l = Listed (value_of l.table) (price_of l.table) l.division l.table.shares.now l.y l.self.tights l.self.ends
