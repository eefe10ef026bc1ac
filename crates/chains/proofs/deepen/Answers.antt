use mathlib.Core.Path.{refl}
use Rattle.chains.proofs.Layered.{Deepening, layerable, fitted, deepened, raised-row}
use Rattle.chains.proofs.deepen.Goals as goal

pub layer-requires : goal.layer-requires
layer-requires c =
    let a = c.args in
    let p = c.requires in
    let d : Deepening a.problem.now.values.now a.problem.now.shares.now a.division.now a.k a.low.now a.prices.now a.vias.now =
    record { problem = p.in_shares.0; shared = p.in_shares.1; less = p.k_in_bounds.0; buffers = p.k_in_bounds.1; searched = p.searched_2 } in
    record { layerable = layerable d; tables = rw d.buffers.low_fits p.tables; fitting = fitted d }

pub returns : goal.returns
returns c =
    let a = c.args in
    let p = c.requires in
    let d : Deepening a.problem.now.values.now a.problem.now.shares.now a.division.now a.k a.low.now a.prices.now a.vias.now =
    record { problem = p.in_shares.0; shared = p.in_shares.1; less = p.k_in_bounds.0; buffers = p.k_in_bounds.1; searched = p.searched_2 } in
    let y = c.layer in
    let copy = c.copy_from_slice in
    record {
      searched = deepened d y.new.after y.new.via y.auto.after y.auto.via y.ensures refl refl copy.ensures.after;
      raised = raised-row d y.new.via copy.new.self _ _ y.auto.via copy.auto.self c.highest.ensures;
    }
