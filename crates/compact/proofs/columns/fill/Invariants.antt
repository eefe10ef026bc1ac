use mathlib.Core.Path.{◌≡◌}
use Prim.Native.Nat.{◌*◌, ◌≤◌}
use lib.ListN.{length}
use Rattle.compact.specs.Numbered.{Columns}
use Rattle.compact.proofs.columns.fill.Given as goal

abbrev pub invariant-loop-s : goal.invariant-loop-s
invariant-loop-s l = (l.s ≤ l.n) × (length l.table ≡ l.n * l.k) × Columns l.values l.w l.sites l.table l.k l.s
