use borrow.Author.Rules.{rules}
use native.Mathlib.Omega.{arith}
use Rattle.survey_check.proofs.Bits.{bits-more}
use Rattle.survey_check.proofs.quick.set_bits.Goals as goal

pub loop-j-init : goal.loop-j-init
loop-j-init c = (search rules, c.requires.zeros)

pub loop-j-preserved : goal.loop-j-preserved
loop-j-preserved c =
    let l = c.loop-j in
    (omega arith, bits-more l.j l.bits (omega arith) l.invariant.1)
