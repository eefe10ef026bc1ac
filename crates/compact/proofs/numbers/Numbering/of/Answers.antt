use native.Mathlib.Omega.{arith}
use Rattle.compact.proofs.SiteNumbers.{kept_more, kept-skip}
use Rattle.compact.proofs.numbers.Numbering.of.Goals.{then-shares-a-ne0, else-shares-a-ne0}
use Rattle.compact.proofs.numbers.Numbering.of.Goals as goal

pub loop-a-preserved : goal.loop-a-preserved
loop-a-preserved c =
    let h = c.loop-a.invariant in
    elim c.if-shares-a-ne0.branch [
      | then-shares-a-ne0 w ↦ kept_more h (omega arith) (omega arith) (omega arith) w.sites-is w.numbers-is w.few-is w.count-is
      | else-shares-a-ne0 w ↦ kept-skip h (omega arith) w.sites-is w.numbers-is w.few-is w.count-is
    ]
