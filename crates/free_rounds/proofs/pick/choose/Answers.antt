use mathlib.Core.Path.{◌∙◌}
use mathlib.Core.List.{List}
use Prim.Native.Nat.{ℕ, ◌<◌, ◌+◌}
use native.Mathlib.Omega.{arith}
use Rattle.std.proofs.Common.{Option}
use Rattle.counting.specs.Bounds.{most_width}
use Rattle.choices.specs.declared.Found.{Found}
use Rattle.choices.proofs.Scanned.{Scanned, scan-none, scan-more, scan-pass, scan-all, not-beaten}
use Rattle.free_rounds.specs.Held.{Bounded, with_none, with_site}
use Rattle.free_rounds.specs.Weighed.{weight_of}
use Rattle.free_rounds.proofs.RoundLoops.{either_way, bounded-set, row-sum, with-range}
use Rattle.free_rounds.proofs.pick.choose.Goals as goal
use Rattle.free_rounds.proofs.pick.choose.Goals.{then-beats, else-beats}

pub sum-total-requires : goal.sum-total-requires
sum-total-requires c =
    let t = c.args.table in
    let p = c.requires.scores in
    (p.1, omega (arith, p.0, t.site_table.few-streets), rw p.0 t.weighed)

pub loop-i-init : goal.loop-i-init
loop-i-init c =
    let t = c.args.table in (
      rw c.requires.scores.0 at c.sum-total.ensures,
      c.requires.bounded,
      scan-none (with_site (weight_of t.weights) t.values.now t.n c.args.bests.now) c.args.flags.now,
    )

pub overflow_add-total : goal.overflow_add-total
overflow_add-total c =
    let t = c.args.table in
    let l = c.loop-i in
    let so = with-range (weight_of t.weights) c.args.bests.now t.site_table t.weighed.small c.requires.scores.1 0 in
    omega (arith, l.invariant.0, so.0, so.1, l.invariant.1.small (l.i + 1))

pub overflow_sub-bounds : goal.overflow_sub-bounds
overflow_sub-bounds c =
    let t = c.args.table in
    let l = c.loop-i in
    let so = with-range (weight_of t.weights) c.args.bests.now t.site_table t.weighed.small c.requires.scores.1 (l.i + 1) in
    let sum = row-sum (weight_of t.weights) c.args.bests.now t.site_table (omega arith) c.requires.scores.0 c.row.ensures c.sum_with-sum.ensures in
    omega (arith, l.invariant.0, so.0, sum)

pub loop-i-preserved : goal.loop-i-preserved
loop-i-preserved c =
    let t = c.args.table in
    let flags = c.args.flags.now in
    let f : ℕ → ℕ = with_site (weight_of t.weights) t.values.now t.n c.args.bests.now in
    let Turned : List ℕ → Option Found → Type 0 = λ bounds best.
    Bounded f (with_none (weight_of t.weights) t.n c.args.bests.now) bounds × Scanned f flags (c.loop-i.i + 1) best in
    let l = c.loop-i in
    let low : l.i + 1 < most_width = omega (arith, t.site_table.few-sites) in
    let so = with-range (weight_of t.weights) c.args.bests.now t.site_table t.weighed.small c.requires.scores.1 (l.i + 1) in
    let turned : Turned c.if-beats.bounds c.if-beats.best = elim c.if-beats.branch [
      | then-beats w ↦
          let sum = row-sum (weight_of t.weights) c.args.bests.now t.site_table (omega arith) c.requires.scores.0 w.row.ensures w.sum_with-sum.ensures in
          either_way Turned w.bounds-is w.best-is (
            bounded-set l.invariant.1 (l.i + 1) _ _ low sum l.invariant.0 so.0 so.1,
            scan-more f flags l.invariant.2 sum w.offer.ensures w.better-best.ensures,
          )
      | else-beats w ↦
          either_way Turned w.bounds-is w.best-is (
            l.invariant.1,
            scan-pass f flags _ l.invariant.2 (omega (arith, l.invariant.1.right (l.i + 1) low, l.invariant.0)) c.offer-hope.ensures
                (not-beaten c.beats.ensures w.if-beats.false),
          )
    ] in
    (l.invariant.0, turned.0, turned.1)

pub returns : goal.returns
returns c =
    let t = c.args.table in
    let f = with_site (weight_of t.weights) t.values.now t.n c.args.bests.now in
    let l = c.loop-i in
    record { site = c.number.ensures ∙ scan-all f c.args.flags.now _ (omega arith) (omega arith) l.invariant.2; bounds = l.invariant.1 }
