use Rattle.std.proofs.Common.{◌≡◌, length}
use Rattle.counting.specs.Lists.{at}
use Rattle.rings.specs.Rings.{moved}
use Rattle.rings.proofs.Walk.shift.Given as goal

abbrev pub invariant-loop-street : goal.invariant-loop-street
invariant-loop-street l =
    (length l.division ≡ length l.initial.division) × (l.division ≡ moved l.initial.division (at l.self.streets) (at l.self.sites) l.from (length l.yielded))
