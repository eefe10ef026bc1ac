use native.Mathlib.Omega.{arith}
use Rattle.std.proofs.lemmas.Result.{err_from_is_err_and}
use Rattle.file_calls.proofs.FilePromises.{write-refused, write-ready, write-room, write-short, write-given}
use Rattle.file_calls.proofs.write_file.Goals as goal

pub returns-in_err-accepted : goal.returns-in_err-accepted
returns-in_err-accepted c =
    let left = err_from_is_err_and c.from_residual.result c.from_residual.ensures.1 in
    rw (left.1, left.2) (write-refused _ c.in_err-accepted.ensures.tried)

pub write-requires-clause-sizes : goal.write-requires-clause-sizes
write-requires-clause-sizes c = let e = c.in_ok-accepted.ensures in rw e.same_town (write-ready e.tried)

pub write-requires-clause-room : goal.write-requires-clause-room
write-requires-clause-room c = let e = c.in_ok-accepted.ensures in rw e.same_town (write-room e.tried)

pub overflow_cast-result : goal.overflow_cast-result
overflow_cast-result c =
    let e = c.in_ok-accepted.ensures in
    let t = c.in_ok-accepted.accepted in
    let size = c.file_length-size.ensures c.args.k c.args.kind t.town.scores.now t.town.weights.now t.accepted.weights-fit in
    omega (arith, rw e.same_town at size, write-short e.tried)

pub returns : goal.returns
returns c =
    let e = c.in_ok-accepted.ensures in
    let t = c.in_ok-accepted.accepted in
    let size = c.file_length-size.ensures c.args.k c.args.kind t.town.scores.now t.town.weights.now t.accepted.weights-fit in
    write-given e.tried (rw e.same_town at size) (rw e.same_town at c.write.ensures)
