use borrow.Author.Rules.{rules}
use native.Mathlib.Omega.{arith}
use Rattle.counting.specs.Lists.{at}
use Rattle.counting.proofs.Refusals.{first-quiet}
use Rattle.call_answers.proofs.Refused.{loop-error}
use Rattle.loads.specs.Loads.{loads_lent}
use Rattle.loads.proofs.SiteSums.{summed-none}
use Rattle.loads.proofs.Limits.{site-tried}
use Rattle.loads.proofs.Loads.try_limits.Goals as goal

pub sum_sites-requires-clause-zeros : goal.sum_sites-requires-clause-zeros
sum_sites-requires-clause-zeros c = summed-none (at c.args.self.kilograms.now)

pub sum_sites-requires-2-clause-zeros : goal.sum_sites-requires-2-clause-zeros
sum_sites-requires-2-clause-zeros c = summed-none (at c.args.self.litres.now)

pub returns-in_err-try_site : goal.returns-in_err-try_site
returns-in_err-try_site c =
    let here = site-tried (loads_lent c.args.self) c.args.division.now _ _ c.loop-a.a _
    c.sum_sites.ensures c.sum_sites-2.ensures (omega arith) c.in_err-try_site.ensures in
    loop-error c.loop-a.a _ _ _ _ c.loop-a.invariant (search rules) here c.loop-a-test.true

pub loop-a-preserved : goal.loop-a-preserved
loop-a-preserved c =
    let here = site-tried (loads_lent c.args.self) c.args.division.now _ _ c.loop-a.a _
    c.sum_sites.ensures c.sum_sites-2.ensures (omega arith) c.in_ok-try_site.ensures in
    first-quiet c.loop-a.a _ c.loop-a.invariant here
