use native.Mathlib.Omega.{arith}
use Rattle.file_reader.proofs.Reading.{town-long}
use Rattle.file_reader.proofs.records.town_in.Goals as goal

pub word_at-requires : goal.word_at-requires
word_at-requires c = omega (arith, town-long c.args.rest.now c.in_ok-try_town.ensures)

pub bounds-rest-4 : goal.bounds-rest-4
bounds-rest-4 c = omega (arith, town-long c.args.rest.now c.in_ok-try_town.ensures)

pub bounds-rest-5 : goal.bounds-rest-5
bounds-rest-5 c = omega (arith, town-long c.args.rest.now c.in_ok-try_town.ensures)

pub bounds-rest-6 : goal.bounds-rest-6
bounds-rest-6 c = omega (arith, town-long c.args.rest.now c.in_ok-try_town.ensures)
