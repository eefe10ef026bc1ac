use native.Mathlib.Omega.{arith}
use Rattle.listing.proofs.Decimals.{one-room, one_written, tenth-room, last-room, last_written}
use Rattle.listing.proofs.+write_decimal.Goals as goal

-- a number below 10 is a byte
pub bounds-out-i : goal.bounds-out-i
bounds-out-i t c = one-room c.args.x c.args.i _ c.if-x-lt10.true c.requires

pub returns-then-x-lt10 : goal.returns-then-x-lt10
returns-then-x-lt10 t c = one_written c.args.out.now c.args.i c.args.x c.if-x-lt10.true c.requires

-- another is a byte behind its tenth
pub write_decimal-next-requires : goal.write_decimal-next-requires
write_decimal-next-requires t c = (omega arith, tenth-room c.args.x c.args.i _ c.if-x-lt10.false c.requires)

pub bounds-out-next : goal.bounds-out-next
bounds-out-next t c = last-room c.if-x-lt10.false c.requires c.write_decimal-next.ensures

pub returns : goal.returns
returns t c = last_written c.if-x-lt10.false c.requires c.write_decimal-next.ensures
