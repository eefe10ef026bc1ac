use native.Mathlib.Omega.{arith}
use Rattle.std.proofs.lemmas.Result.{err_from_is_err_and}
use Rattle.file_calls.proofs.ConvertPromises.{convert-refused, convert-room, convert-short, convert-given}
use Rattle.file_calls.proofs.convert_file.Goals as goal

pub returns-in_err-taken : goal.returns-in_err-taken
returns-in_err-taken c =
    let left = err_from_is_err_and c.from_residual.result c.from_residual.ensures.1 in
    rw (left.1, left.2) (convert-refused _ c.in_err-taken.ensures.tried)

pub convert-requires : goal.convert-requires
convert-requires c = let e = c.in_ok-taken.ensures in rw e.taken.0 (convert-room e.tried)

pub overflow_cast-result : goal.overflow_cast-result
overflow_cast-result c =
    let e = c.in_ok-taken.ensures in
    omega (arith, rw e.taken.0 at c.converted_length-length.ensures, convert-short e.tried)

pub returns : goal.returns
returns c =
    let e = c.in_ok-taken.ensures in
    convert-given e.tried (λ j. omega (arith, c.type_inv.file j)) (rw e.taken.0 at c.converted_length-length.ensures) (rw e.taken.0 at c.convert.ensures)
