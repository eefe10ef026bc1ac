use mathlib.Core.Path.{◌≡◌}
use lib.ListN.{length}
use Rattle.queues.specs.Limits.{Leaver, Limits}
use Rattle.queues.specs.Priced.{value_of, price_of}
use Rattle.ties.specs.Standing.{Loose}
use Rattle.ties.proofs.aim.Given as goal

abbrev pub invariant-loop-b : goal.invariant-loop-b
invariant-loop-b l = (length l.limits ≡ length l.initial.limits) × Loose (value_of l.table) (price_of l.table) l.table.shares.now l.limits l.division l.s l.b
    × Limits (Leaver (value_of l.table) (price_of l.table) l.table.shares.now l.division) l.s l.division l.limits
