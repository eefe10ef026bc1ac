use native.Mathlib.Omega.{arith}
use mathlib.Core.Path.{◌≡◌, refl, ap, ◌∙◌}
use lib.ListN.{length}
use Rattle.survey.specs.Rows.{ranked_part}
use Prim.Native.Nat.{ℕ, ◌+◌, ◌*◌, ◌≤◌}
use Rattle.counting.specs.Bounds.{most_streets}
use Rattle.counting.proofs.Equations.{along}
use Rattle.survey_file.specs.Decode.{weights_size}
use Rattle.survey_file.proofs.Lengths.{size-most}
use Rattle.file_writer.proofs.Encoded.{Sized, sized-none, sized-more, sized-all}
use Rattle.file_writer.proofs.file_length.Goals as goal

pub loop-s-init : goal.loop-s-init
loop-s-init c =
    let t = c.args.accepted.town in
    let size = weights_size c.args.new_form t.n in
    let most : size ≤ 2 + most_streets = omega (arith, size-most c.args.new_form t.n, c.args.accepted.accepted.few-streets) in
    along (λ (x : ℕ). Sized size t.m t.rows.now 0 (11 + 2 * t.m + x)) c.weights_size.ensures (sized-none _ _ _ c.args.accepted.accepted.few-sites most)

pub loop-s-preserved : goal.loop-s-preserved
loop-s-preserved c =
    let t = c.args.accepted.town in
    let l = c.loop-s in
    let sum : l.size + (5 + length c.ranked.result.now) ≡ l.size + 5 + length c.ranked.result.now = omega arith in
    along (λ (x : ℕ). Sized (weights_size c.args.new_form t.n) t.m t.rows.now (l.s + 1) x) sum
    (sized-more l.invariant _ c.args.accepted.accepted.few-sites (c.ranked.ensures.bytes ∙ ap ranked_part c.row.ensures))

pub returns : goal.returns
returns c = let a = c.args in sized-all c.loop-s.invariant a.new_form a.accepted.town.n (omega arith) (omega arith) refl
