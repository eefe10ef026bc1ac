use Prim.Native.Nat.{◌≤◌, ◌-◌}
use Rattle.survey_check.specs.Bits.{SiteBits}
use Rattle.survey_check.proofs.quick.set_bits.Given as goal

abbrev pub invariant-loop-j : goal.invariant-loop-j
invariant-loop-j l = (l.j ≤ l.m) × SiteBits l.j l.bits

abbrev pub decreases-loop-j : goal.decreases-loop-j
decreases-loop-j l = l.m - l.j
