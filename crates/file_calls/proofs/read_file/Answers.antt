use native.Mathlib.Omega.{arith}
use Rattle.std.proofs.lemmas.Result.{err_from_is_err_and}
use Rattle.file_calls.proofs.FilePromises.{file-refused, fill-ready, file-given}
use Rattle.file_calls.proofs.read_file.Goals as goal

pub returns-in_err-taken : goal.returns-in_err-taken
returns-in_err-taken c =
    let left = err_from_is_err_and c.from_residual.result c.from_residual.ensures.1 in
    rw (left.1, left.2) (file-refused _ c.in_err-taken.ensures.tried)

pub fill-requires : goal.fill-requires
fill-requires c = fill-ready c.in_ok-taken.ensures.tried

pub returns : goal.returns
returns c =
    let tried = c.in_ok-taken.ensures.tried in
    let taken = c.in_ok-taken.ensures.taken in
    let new = c.fill.ensures in
    file-given tried (λ j. omega (arith, c.type_inv.file j)) taken.1
    (rw taken.0 at new.rows) (rw taken.0 at new.scores) (rw taken.0 at new.weights)
