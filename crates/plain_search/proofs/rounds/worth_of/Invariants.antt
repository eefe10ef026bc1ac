use Prim.Native.Nat.{◌≤◌, ◌*◌}
use mathlib.Core.Path.{◌≡◌}
use lib.ListN.{length}
use Rattle.plain_search.proofs.rounds.worth_of.Given as goal

abbrev pub invariant-loop-i : goal.invariant-loop-i
invariant-loop-i l = (l.share ≤ 8) × (l.worth.total ≤ 16711425 * l.i) × (length l.worth.given ≡ 8)
