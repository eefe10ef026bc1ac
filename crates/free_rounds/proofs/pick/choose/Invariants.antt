use mathlib.Core.Path.{◌≡◌}
use Rattle.choices.proofs.Scanned.{Scanned}
use Rattle.free_rounds.specs.Held.{Bounded, with_none, with_site}
use Rattle.free_rounds.specs.Weighed.{weight_of}
use Rattle.free_rounds.proofs.pick.choose.Given as goal

abbrev pub invariant-loop-i : goal.invariant-loop-i
invariant-loop-i l = let t = l.table in
    (l.total ≡ with_none (weight_of t.weights) t.n l.bests)
    × Bounded (with_site (weight_of t.weights) t.values.now t.n l.bests) (with_none (weight_of t.weights) t.n l.bests) l.bounds
    × Scanned (with_site (weight_of t.weights) t.values.now t.n l.bests) l.flags l.i l.best
