use mathlib.Core.Path.{◌≡◌}
use lib.ListN.{length}
use Rattle.ties.specs.Standing.{Pass}
use Rattle.ties.proofs.settle.Given as goal

abbrev pub invariant-loop-s : goal.invariant-loop-s
invariant-loop-s l = (length l.division ≡ length l.initial.division)
    × Pass l.table.values.now l.table.shares.now l.table.prices.now l.division l.rows.tights l.rows.ends l.limits l.s
