use Rattle.std.proofs.Common.{◌≡◌, ◌+◌, ◌*◌, ◌≤◌}
use Rattle.small_towns.specs.Counted.{Counted}
use Rattle.small_towns.proofs.Counts.with_town.Given as goal

abbrev pub invariant-loop-i : goal.invariant-loop-i
invariant-loop-i g l = (l.i ≤ l.i-end) × (l.i-end ≡ l.town.m) × Counted l.self.sizes × (l.self.sizes.choices ≡ l.initial.self.sizes.choices + l.i)
    × (l.self.compared ≤ l.initial.self.compared + 60 * l.i) × (l.self.differences ≤ l.initial.self.differences + 60 * l.i)
