use native.Mathlib.Omega.{arith}
use mathlib.Core.Path.{sym}
use mathlib.Core.List.{List}
use Prim.Native.Nat.{ℕ}
use Rattle.counting.specs.Buffers.{Written}
use Rattle.counting.proofs.Equations.{along}
use Rattle.counting.proofs.Laying.{written_next}
use Rattle.file_writer.proofs.Encoded.{none_written, new-weights}
use Rattle.file_writer.proofs.records.write_weights.Goals as goal

pub returns-then-not-new_form : goal.returns-then-not-new_form
returns-then-not-new_form c =
    let a = c.args in
    none_written a.new_form a.weights.now a.file.now a.i c.if-not-new_form.true (omega arith)

pub returns : goal.returns
returns c =
    let a = c.args in
    let w = c.write_list in
    along (λ (bytes : List ℕ). Written a.file.now a.i bytes w.new.out w.result) (sym (new-weights a.new_form a.weights.now c.if-not-new_form.false))
    (written_next c.write_word-behind_mark.ensures w.ensures)
