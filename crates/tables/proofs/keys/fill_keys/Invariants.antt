use mathlib.Core.Path.{◌≡◌}
use Prim.Native.Nat.{◌+◌, ◌*◌}
use lib.ListN.{length}
use Rattle.tables.specs.Entries.{by_site}
use Rattle.tables.proofs.Filling.{Filled}
use Rattle.tables.proofs.Keyed.{key_at}
use Rattle.tables.proofs.keys.fill_keys.Given as goal

abbrev pub invariant-loop-s : goal.invariant-loop-s
invariant-loop-s l = let t = l.town in
    Filled (λ u. key_at t.m) (by_site t.n) t.n t.m t.rows.now l.keys l.s × (length l.keys ≡ (t.m + 1) * t.n)
