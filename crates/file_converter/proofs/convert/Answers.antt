use native.Mathlib.Omega.{arith}
use mathlib.Core.Path.{◌≡◌, sym, ap, ◌∙◌}
use mathlib.Core.Bool.{Bool}
use Prim.Native.Nat.{ℕ, ◌+◌, ◌-◌, ◌*◌}
use lib.ListN.{length, take, drop, replicate, length-replicate}
use Rattle.counting.specs.Bounds.{most_streets}
use Rattle.counting.specs.Buffers.{laid}
use Rattle.survey_file.specs.Decode.{weights_size}
use Rattle.file_converter.proofs.Converting.{few, scores-there, weights-there, new-there, pieces_are, weights-new, weights-old, front-ones}
use Rattle.file_converter.proofs.convert.Goals as goal

pub weights_size-requires : goal.weights_size-requires
weights_size-requires c = let t = c.args.taken in (few t.file.now t.sizes.n t.sizes.m t.sizes.new_form t.taken).0

-- ---- a new file: its weights are a part of it
pub slice_bounds-put_together-end : goal.slice_bounds-put_together-end
slice_bounds-put_together-end c =
    let a = c.args in
    let t = a.taken in
    let size : weights_size t.sizes.new_form t.sizes.n ≡ 2 + t.sizes.n = ap (λ (b : Bool). weights_size b t.sizes.n) c.if-new_form.true in
    omega (arith, new-there t.file.now t.sizes.n t.sizes.m t.sizes.new_form t.taken c.if-new_form.true)

pub put_together-requires : goal.put_together-requires
put_together-requires c =
    let a = c.args in
    let t = a.taken in
    let size : weights_size t.sizes.new_form t.sizes.n ≡ 2 + t.sizes.n = ap (λ (b : Bool). weights_size b t.sizes.n) c.if-new_form.true in
    let part = weights-new t.file.now t.sizes.n t.sizes.m t.sizes.new_form t.taken c.if-new_form.true (9 + 2 * t.sizes.m + c.weights_size.result - (11 + 2 * t.sizes.m)) (omega arith) in
    let made = pieces_are t.file.now t.sizes.n t.sizes.m t.sizes.new_form t.taken t.bytes a.wanted
    (take (9 + 2 * t.sizes.m + c.weights_size.result - (11 + 2 * t.sizes.m)) (drop (11 + 2 * t.sizes.m) t.file.now)) (9 + 2 * t.sizes.m + c.weights_size.result) part (omega arith)
    in
    record {
      m_le_most_sites = (
        (few t.file.now t.sizes.n t.sizes.m t.sizes.new_form t.taken).1,
        scores-there t.file.now t.sizes.n t.sizes.m t.sizes.new_form t.taken,
        omega (arith, weights-there t.file.now t.sizes.n t.sizes.m t.sizes.new_form t.taken),
      );
      streets_in_bounds = omega (arith, ap length made);
    }

pub returns-then-new_form : goal.returns-then-new_form
returns-then-new_form c =
    let a = c.args in
    let t = a.taken in
    let size : weights_size t.sizes.new_form t.sizes.n ≡ 2 + t.sizes.n = ap (λ (b : Bool). weights_size b t.sizes.n) c.if-new_form.true in
    let part = weights-new t.file.now t.sizes.n t.sizes.m t.sizes.new_form t.taken c.if-new_form.true (9 + 2 * t.sizes.m + c.weights_size.result - (11 + 2 * t.sizes.m)) (omega arith) in
    c.put_together.ensures
    ∙ ap (laid a.out.now 0) (pieces_are t.file.now t.sizes.n t.sizes.m t.sizes.new_form t.taken t.bytes a.wanted _ _ part (omega arith))

-- ---- an old file: its weights are ones
pub slice_bounds-ones-end : goal.slice_bounds-ones-end
slice_bounds-ones-end c = let t = c.args.taken in (few t.file.now t.sizes.n t.sizes.m t.sizes.new_form t.taken).0

pub slice_bounds-put_together-end-2 : goal.slice_bounds-put_together-end-2
slice_bounds-put_together-end-2 c =
    let a = c.args in
    let t = a.taken in
    sym (ap length (front-ones t.sizes.n (few t.file.now t.sizes.n t.sizes.m t.sizes.new_form t.taken).0) ∙ length-replicate {A = ℕ} t.sizes.n 1)

pub put_together-requires-2 : goal.put_together-requires-2
put_together-requires-2 c =
    let a = c.args in
    let t = a.taken in
    let small = few t.file.now t.sizes.n t.sizes.m t.sizes.new_form t.taken in
    let ones = front-ones t.sizes.n small.0 ∙ weights-old t.file.now t.sizes.n t.sizes.m t.sizes.new_form t.taken c.if-new_form.false in
    let made = pieces_are t.file.now t.sizes.n t.sizes.m t.sizes.new_form t.taken t.bytes a.wanted (take t.sizes.n (replicate {A = ℕ} most_streets 1))
    (9 + 2 * t.sizes.m + c.weights_size.result) ones (omega arith)
    in
    record {
      m_le_most_sites = (
        small.1,
        scores-there t.file.now t.sizes.n t.sizes.m t.sizes.new_form t.taken,
        omega (arith, weights-there t.file.now t.sizes.n t.sizes.m t.sizes.new_form t.taken),
      );
      streets_in_bounds = omega (arith, ap length made);
    }

pub returns : goal.returns
returns c =
    let a = c.args in
    let t = a.taken in
    let ones = front-ones t.sizes.n (few t.file.now t.sizes.n t.sizes.m t.sizes.new_form t.taken).0 ∙ weights-old t.file.now t.sizes.n t.sizes.m t.sizes.new_form t.taken c.if-new_form.false in
    c.put_together-2.ensures
    ∙ ap (laid a.out.now 0) (pieces_are t.file.now t.sizes.n t.sizes.m t.sizes.new_form t.taken t.bytes a.wanted _ _ ones (omega arith))
