use mathlib.Core.Path.{refl, ap, ◌∙◌}
use native.Mathlib.Omega.{arith}
use lib.ListN.{length}
use Rattle.chains.proofs.Search.{priced}
use Rattle.chains.proofs.Improving.{inside, valued, improving-on, improved, nearer}
use Rattle.chains.proofs.Gains.{walkable, ring-closed, ring-gains}
use Rattle.chains.proofs.improve.Goals as goal

pub sum-requires : goal.sum-requires
sum-requires c = let h = c.search.invariant.2 in (valued h.problem, inside c.search.division h.problem h.shared)

pub back-requires : goal.back-requires
back-requires c =
    let s = c.search in
    let kept = c.deepen.auto in
    let h = improving-on s.invariant.2 {low' = c.deepen.new.low} {prices' = c.deepen.new.prices} {vias' = c.deepen.new.vias} kept.low kept.prices kept.vias in
    walkable s.k h s.invariant.1 c.deepen.ensures.searched c.in-Some.ensures.raised

pub improve-smaller : goal.improve-smaller
improve-smaller c =
    let s = c.search in
    let h = s.invariant.2 in
    let long = c.turn.auto.division ∙ ap length s.invariant.0 ∙ c.improve.invariant.0 in
    let gain = ring-gains c.deepen.ensures.searched (inside s.division h.problem h.shared) c.in-Some-back.ensures c.turn.ensures.moved in
    nearer c.args.problem.now.values.now c.improve.division s.division c.turn.new.division (length c.args.problem.now.shares.now)
    (length c.args.division.now) h.problem.small s.invariant.0 long gain

pub improve-preserved : goal.improve-preserved
improve-preserved c =
    let s = c.search in
    let kept = c.deepen.auto in
    let h = improving-on s.invariant.2 {low' = c.deepen.new.low} {prices' = c.deepen.new.prices} {vias' = c.deepen.new.vias} kept.low kept.prices kept.vias in
    let t = c.turn.ensures in
    (c.turn.auto.division ∙ ap length s.invariant.0 ∙ c.improve.invariant.0, improved h (ring-closed c.in-Some-back.ensures) t.moved t.tables)

pub returns : goal.returns
returns c =
    let s = c.search in
    let h = s.invariant.2 in
    let d = c.deepen.ensures in
    let few = h.problem.few-sites in
    let best = priced d.searched (inside s.division h.problem h.shared) s.k refl refl h.problem.nobody c.in_default.ensures.raised in
    record { total = c.sum.ensures; shares = h.shared; best = ((λ x. omega (arith, d.searched.small x, s.invariant.1, few)), best) }
