use mathlib.Core.Path.{◌≡◌}
use Prim.Native.Nat.{◌≤◌}
use native.Mathlib.Nat.{mul-le-mul}
use native.Mathlib.Omega.{arith}
use Rattle.counting.specs.Bounds.{top_weight}
use Rattle.survey.specs.Rows.{least_of}
use Rattle.survey.proofs.LeastWeights.{weight-bound, least-low}
use Rattle.floors.proofs.floor.Goals as goal

pub overflow_mul-result : goal.overflow_mul-result
overflow_mul-result c =
    let t = c.args.town.town in
    let ok = c.args.town.accepted in
    let least : c.least.result ≡ least_of t.n t.weights.now = rw ok.weights-fit at c.least.ensures in
    let low : c.from.result ≤ top_weight =
    omega (arith, c.from.ensures, least, least-low t.n t.weights.now 0 ok.some-street, weight-bound t.weights.now ok.sound-weights 0) in
    omega (arith, mul-le-mul low c.plain_floor.ensures.1)
