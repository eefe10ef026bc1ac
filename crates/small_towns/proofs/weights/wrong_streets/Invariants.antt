use Rattle.std.proofs.Common.{◌≡◌, ◌*◌, ◌≤◌}
use Rattle.small_towns.proofs.weights.wrong_streets.Given as goal

abbrev pub invariant-loop-s : goal.invariant-loop-s
invariant-loop-s g l = (l.s ≤ l.s-end) × (l.s-end ≡ l.town.n) × (l.count ≤ 20 * l.s)
