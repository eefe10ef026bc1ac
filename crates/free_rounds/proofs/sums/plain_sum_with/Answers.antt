use mathlib.Core.Path.{◌∙◌}
use native.Mathlib.Omega.{arith}
use Rattle.free_rounds.proofs.RoundLoops.{part-turn}
use Rattle.free_rounds.proofs.sums.plain_sum_with.Goals as goal

pub overflow_add-raised : goal.overflow_add-raised
overflow_add-raised c =
    let l = c.loop-from in
    omega (arith, (part-turn c.requires l.from c.min-to.ensures (omega arith) l.invariant.1 (c.from-raised.ensures ∙ c.part.ensures)).1)

pub loop-from-preserved : goal.loop-from-preserved
loop-from-preserved c =
    let l = c.loop-from in
    (omega (arith, c.min-to.ensures), (part-turn c.requires l.from c.min-to.ensures (omega arith) l.invariant.1 (c.from-raised.ensures ∙ c.part.ensures)).0)
