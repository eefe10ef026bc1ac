use Prim.Native.Nat.{ℕ, ◌≤◌, max}
use native.Mathlib.Omega.{arith}
use lib.ListN.{length}
use Rattle.counting.specs.Bounds.{top_weight}
use Rattle.counting.specs.Lists.{at}
use Rattle.free_rounds.specs.declared.weights.Weighing.TheVariants as weighing
use Rattle.free_rounds.specs.Weighed.{Weighed}
use Rattle.free_rounds.proofs.RoundLoops.{scores-sum, total-small, even_sum}
use Rattle.free_rounds.proofs.sums.sum_with.Goals as goal

-- the product is not great
pub overflow_mul-result : goal.overflow_mul-result
overflow_mul-result c =
    let b = c.requires.0 in
    let score : ℕ → ℕ = λ s. max (at c.args.bests.now s) (at c.args.row.now s) in
    let ready : Weighed (length c.args.bests.now) (weighing.Even c.in-Even.weight) = rw c.in-Even.is at c.requires.1 in
    let weight : c.from.result ≤ top_weight = omega (arith, c.from.ensures, ready.small 0) in
    omega (arith, total-small weight (scores-sum score b.few (λ s. omega (arith, b.small-bests s, b.small s)) c.plain_sum_with.ensures))

pub weighed_sum_with-requires : goal.weighed_sum_with-requires
weighed_sum_with-requires c =
    let ready : Weighed (length c.args.bests.now) (weighing.Own c.in-Own.weights) = rw c.in-Own.is at c.requires.1 in
    (c.requires.0, ready.size, ready.small)

pub returns-in-Even : goal.returns-in-Even
returns-in-Even c =
    let score : ℕ → ℕ = λ s. max (at c.args.bests.now s) (at c.args.row.now s) in
    rw c.in-Even.is (even_sum (length c.args.bests.now) c.in-Even.weight score c.from.ensures c.plain_sum_with.ensures)
