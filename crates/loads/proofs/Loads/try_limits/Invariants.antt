use mathlib.Core.Path.{◌≡◌}
use Rattle.counting.specs.Words.{first_nonzero}
use Rattle.loads.specs.Loads.{loads_lent}
use Rattle.loads.proofs.Limits.{tried}
use Rattle.loads.proofs.Loads.try_limits.Given as goal

abbrev pub invariant-loop-a : goal.invariant-loop-a
invariant-loop-a l = first_nonzero l.a (tried (loads_lent l.self) l.division) ≡ 0
