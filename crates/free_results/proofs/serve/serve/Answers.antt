use mathlib.Core.Path.{sym}
use native.Mathlib.Omega.{arith}
use Rattle.counting.proofs.Filling.{mapped_end, mapped-list_of}
use Rattle.free_results.proofs.serve.serve.Goals as goal

pub returns : goal.returns
returns c = let l = c.loop-s in
    mapped-list_of _ _ _ c.args.town.town.n (sym c.requires.0) (mapped_end _ _ _ l.s _ (omega arith) (omega arith) l.invariant)
