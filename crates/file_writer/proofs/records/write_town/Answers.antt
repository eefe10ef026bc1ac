use mathlib.Core.Path.{sym}
use Prim.Native.Nat.{ℕ}
use Rattle.counting.specs.Buffers.{Written}
use Rattle.survey_file.specs.Encode.{word}
use Rattle.counting.proofs.Equations.{along}
use Rattle.counting.proofs.Laying.{written_next}
use Rattle.file_writer.proofs.records.write_town.Goals as goal

pub returns : goal.returns
returns c =
    let a = c.args in
    let w = c.write_word-behind_mark in
    let mark = along (λ (x : ℕ). Written a.file.now a.i (word x) w.new.file w.result) (sym c.town_mark.ensures) w.ensures in
    written_next (written_next mark c.write_word-behind_number.ensures) c.write_list.ensures
