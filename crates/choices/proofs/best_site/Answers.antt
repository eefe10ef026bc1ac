use mathlib.Core.Path.{refl, ◌∙◌}
use native.Mathlib.Omega.{arith}
use Rattle.counting.specs.Lists.{at}
use Rattle.choices.proofs.Scanned.{scan-none, scan-more, scan-all}
use Rattle.choices.proofs.best_site.Goals as goal

pub loop-i-init : goal.loop-i-init
loop-i-init c = scan-none (at c.args.sums.now) c.args.flags.now

pub loop-i-preserved : goal.loop-i-preserved
loop-i-preserved c = scan-more (at c.args.sums.now) c.args.flags.now c.loop-i.invariant refl c.offer.ensures c.better-best.ensures

pub returns : goal.returns
returns c = c.number.ensures ∙ scan-all (at c.args.sums.now) c.args.flags.now _ (omega arith) (omega arith) c.loop-i.invariant
