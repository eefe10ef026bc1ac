use mathlib.Core.Path.{◌≡◌}
use lib.ListN.{length}
use Rattle.queues.specs.Priced.{value_of, price_of}
use Rattle.queues.specs.Tights.{Row}
use Rattle.division.specs.Prices.{Agree}
use Rattle.queues.proofs.tights.fill_row.Given as goal

abbrev pub invariant-loop-t : goal.invariant-loop-t
invariant-loop-t l = (length l.tights ≡ length l.initial.tights) × Row (value_of l.table) (price_of l.table) l.division l.tights l.row l.e l.y l.t
    × Agree l.initial.tights l.tights l.row
