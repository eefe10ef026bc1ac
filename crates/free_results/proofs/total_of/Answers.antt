use mathlib.Core.Path.{◌≡◌, sym, ◌∙◌}
use native.Mathlib.Omega.{arith}
use lib.ListN.{length, take}
use lib.Seq.{length-take-le}
use Rattle.survey.proofs.LeastWeights.{weight-bound}
use Rattle.free_results.proofs.Results.{bests-ready, total-found}
use Rattle.free_results.proofs.total_of.Goals as goal

pub sum-requires : goal.sum-requires
sum-requires c =
    let t = c.args.town.town in
    let ok = c.args.town.accepted in
    let whole : length (take t.n c.args.state.now.bests) ≡ t.n =
    length-take-le t.n c.args.state.now.bests (omega (arith, ok.few-streets, c.requires.bests-size)) in (
      bests-ready ok c.requires,
      omega (arith, ok.few-streets),
      record { size = ok.weights-fit ∙ sym whole; small = weight-bound t.weights.now ok.sound-weights },
    )

pub returns : goal.returns
returns c =
    let t = c.args.town.town in
    let ok = c.args.town.accepted in
    let whole : length (take t.n c.args.state.now.bests) ≡ t.n =
    length-take-le t.n c.args.state.now.bests (omega (arith, ok.few-streets, c.requires.bests-size)) in
    total-found ok c.requires (rw whole at c.sum.ensures)
