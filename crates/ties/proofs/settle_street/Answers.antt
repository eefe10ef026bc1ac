use native.Mathlib.Omega.{arith}
use Rattle.queues.proofs.LeaveLimits.{last-street}
use Rattle.ties.proofs.PassSteps.{priced-table, pass-limited, pass-still, pass-swapped}
use Rattle.ties.proofs.settle_street.Goals as goal

pub aim-requires : goal.aim-requires
aim-requires c = let p = c.requires in record { fits = priced-table p.pass; s_in_bounds = (p.s_in_bounds, p.pass.fits); limits = p.pass.limited }

pub returns-in_default : goal.returns-in_default
returns-in_default c =
    let pass = pass-limited c.requires.pass c.aim.new.limits c.aim.auto.limits c.aim.ensures.limits_2 in
    pass-still pass c.requires.s_in_bounds c.in_default.ensures.aim

pub tight-requires : goal.tight-requires
tight-requires c =
    let table = priced-table c.requires.pass in
    let last = last-street c.args.division.now c.args.s c.aim.new.limits c.in-Some.b c.in-Some.ensures.aim.left in
    record { fits = table; t_in_bounds = (rw c.from-t.ensures last.1.street, rw c.from.ensures (table.sited c.args.s c.requires.s_in_bounds)) }

pub raise-requires : goal.raise-requires
raise-requires c =
    let p = c.requires in
    omega (arith, (priced-table p.pass).sited c.args.s p.s_in_bounds, c.from-then-tight.ensures, p.pass.fits, c.aim.auto.limits)

pub returns-then-tight : goal.returns-then-tight
returns-then-tight c =
    let p = c.requires in
    let pass = pass-limited p.pass c.aim.new.limits c.aim.auto.limits c.aim.ensures.limits_2 in
    let aim = c.in-Some.ensures.aim in
    let (limit, later) = last-street c.args.division.now c.args.s c.aim.new.limits c.in-Some.b aim.left in
    let back = rw (c.from-t.ensures, c.from.ensures) at (c.tight.ensures.0 c.if-tight.true) in
    let raised = rw c.from-then-tight.ensures at c.raise.ensures in
    rw c.from-t.ensures (pass-swapped pass p.s_in_bounds aim later back c.raise.new.limits c.raise.auto.limits (rw limit raised))
