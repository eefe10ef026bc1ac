use native.Mathlib.Omega.{arith}
use Rattle.file_reader.proofs.Reading.{street-long}
use Rattle.file_reader.proofs.records.street_in.Goals as goal

pub bounds-rest-4 : goal.bounds-rest-4
bounds-rest-4 c = let a = c.args in omega (arith, street-long a.m a.number a.rest.now c.in_ok-try_street.ensures)
