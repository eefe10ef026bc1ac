use mathlib.Core.Path.{◌∙◌}
use native.Mathlib.Omega.{arith}
use Rattle.hand_plans.proofs.Tallies.{counted-from}
use Rattle.hand_plans.proofs.count_sites.Goals as goal

pub returns : goal.returns
returns c = c.count_within.ensures ∙ counted-from _ c.args.counts.now c.args.m (omega arith)
