use mathlib.Core.Path.{sym}
use native.Mathlib.Nat.{mul-le-mul}
use native.Mathlib.Omega.{arith}
use lib.Dec.{lit<}
use Rattle.counting.proofs.Refusals.{within, exact}
use Rattle.survey_check.proofs.check.try_all.Goals as goal

pub overflow_mul-town : goal.overflow_mul-town
overflow_mul-town g c =
    let streets = within 1 c.args.town.n 1 400 (lit< tt) (sym c.in_ok-try_streets.ensures) in
    let sites = within 2 c.args.town.m 1 64 (lit< tt) (sym c.in_ok-try_sites.ensures) in
    omega (arith, mul-le-mul streets.1 sites.1)

pub try_held-requires-clause-rows_held : goal.try_held-requires-clause-rows_held
try_held-requires-clause-rows_held g c = omega (arith, exact 6 _ _ (lit< tt) (sym c.in_ok-try_length-3.ensures))

pub try_held-requires-clause-few_sites : goal.try_held-requires-clause-few_sites
try_held-requires-clause-few_sites g c = (within 2 c.args.town.m 1 64 (lit< tt) (sym c.in_ok-try_sites.ensures)).1
