use lib.ListN.{length}
use Rattle.tables.specs.Entries.{by_site}
use Rattle.tables.proofs.Filling.{Passed}
use Rattle.tables.proofs.Keyed.{key_at}
use Rattle.tables.proofs.keys.fill_street.Given as goal

abbrev pub invariant-loop-j : goal.invariant-loop-j
invariant-loop-j l = Passed (key_at (length l.row)) (λ a. by_site l.n a l.s) l.row l.initial.keys l.keys l.j
