use mathlib.Core.Path.{◌≡◌}
use Prim.Native.Nat.{◌+◌, ◌*◌}
use lib.ListN.{length}
use Rattle.counting.specs.Lists.{at}
use Rattle.survey.specs.Rows.{score_at}
use Rattle.tables.specs.Entries.{by_street}
use Rattle.tables.proofs.Filling.{Filled}
use Rattle.tables.proofs.by_street.fill_values.Given as goal

abbrev pub invariant-loop-s : goal.invariant-loop-s
invariant-loop-s l = let t = l.town in
    Filled (λ u p. at t.weights.now u * score_at t.scores.now p) (by_street (t.m + 1)) t.n t.m t.rows.now l.values l.s
    × (length l.values ≡ length l.initial.values)
