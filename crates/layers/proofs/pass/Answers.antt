use Rattle.layers.proofs.Relaxation.{gains-none, lifts-skip}
use Rattle.layers.proofs.pass.Goals as goal

pub returns-else-moves-a-ne0 : goal.returns-else-moves-a-ne0
returns-else-moves-a-ne0 c =
    let a = c.args in
    let p = c.requires in
    let less = p.a_in_bounds in
    let row = p.tables.paired a.a less in
    lifts-skip (gains-none a.moves.now.gains a.moves.now.pairs less row (λ s b. p.layerable.small _) c.if-moves-a-ne0.false) p.lifts
