use mathlib.Core.Path.{◌≡◌}
use Rattle.survey.specs.Rows.{shortest_of}
use Rattle.floors.proofs.shortest.Given as goal

abbrev pub invariant-loop-s : goal.invariant-loop-s
invariant-loop-s l = l.least ≡ shortest_of l.s l.town.m l.town.rows.now
