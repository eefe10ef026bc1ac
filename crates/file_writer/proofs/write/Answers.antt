use native.Mathlib.Omega.{arith}
use mathlib.Core.Path.{ap, sym}
use mathlib.Core.List.{List}
use Prim.Native.Nat.{ℕ, ◌+◌, ◌≤◌}
use lib.ListN.{length}
use Rattle.counting.specs.Buffers.{Written}
use Rattle.counting.proofs.Equations.{along}
use Rattle.counting.proofs.Laying.{written-size}
use Rattle.survey.specs.Town.{lent}
use Rattle.survey_file.specs.Filed.{Filed, filed_of}
use Rattle.survey_file.specs.Encode.{scores_bytes}
use Rattle.file_writer.proofs.Encoded.{records-length, encode-written}
use Rattle.file_writer.proofs.write.Goals as goal

pub write_town-behind_town-requires : goal.write_town-behind_town-requires
write_town-behind_town-requires c =
    let a = c.args in
    let t = a.accepted.accepted in
    let size = records-length (filed_of a.new_form (lent a.accepted.town) a.k a.kind) in
    (t.few-streets, t.few-sites, omega (arith, c.requires.sizes.0, t.few-sites), c.requires.sizes.1, omega (arith, size, c.requires.room))

pub write_scores-behind_scores-requires : goal.write_scores-behind_scores-requires
write_scores-behind_scores-requires c =
    let a = c.args in
    let size = records-length (filed_of a.new_form (lent a.accepted.town) a.k a.kind) in
    let same = ap (λ (m : ℕ). length (scores_bytes m a.accepted.town.scores.now)) a.accepted.accepted.scores-fit in
    omega arith

pub write_weights-behind_weights-requires : goal.write_weights-behind_weights-requires
write_weights-behind_weights-requires c =
    let a = c.args in
    let size = records-length (filed_of a.new_form (lent a.accepted.town) a.k a.kind) in
    let same = ap (λ (m : ℕ). length (scores_bytes m a.accepted.town.scores.now)) a.accepted.accepted.scores-fit in
    omega arith

pub write_streets-behind_streets-requires : goal.write_streets-behind_streets-requires
write_streets-behind_streets-requires c =
    let a = c.args in
    let size = records-length (filed_of a.new_form (lent a.accepted.town) a.k a.kind) in
    let same = ap (λ (m : ℕ). length (scores_bytes m a.accepted.town.scores.now)) a.accepted.accepted.scores-fit in
    let t = a.accepted.accepted in
    (t.few-streets, t.few-sites, t.rows_fit, omega arith)

pub write_word-requires : goal.write_word-requires
write_word-requires c =
    let a = c.args in
    let size = records-length (filed_of a.new_form (lent a.accepted.town) a.k a.kind) in
    let same = ap (λ (m : ℕ). length (scores_bytes m a.accepted.town.scores.now)) a.accepted.accepted.scores-fit in
    omega arith

pub returns : goal.returns
returns c =
    let a = c.args in
    let w = c.write_scores-behind_scores in
    let filed : Filed = filed_of a.new_form (lent a.accepted.town) a.k a.kind in
    let scores = along (λ (m : ℕ). Written c.write_town-behind_town.new.file c.write_town-behind_town.result (scores_bytes m a.accepted.town.scores.now) w.new.file w.result)
    (sym a.accepted.accepted.scores-fit) w.ensures in
    encode-written filed c.write_town-behind_town.ensures scores c.write_weights-behind_weights.ensures
    c.write_streets-behind_streets.ensures c.write_word.ensures
