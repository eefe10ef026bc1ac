use native.Mathlib.Omega.{arith}
use Rattle.counting.proofs.Laying.{written_byte, written_next}
use Rattle.listing.proofs.write_spaced.Goals as goal

pub returns : goal.returns
returns c = written_next (written_byte c.args.out.now c.args.i 32 (omega arith)) c.write_decimal.ensures
