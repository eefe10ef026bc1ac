use Rattle.counting.proofs.Refusals.{unless-none, unless-is}
use Rattle.balanced_rounds.proofs.worth_of.Goals as goal

pub returns-then-flags-a : goal.returns-then-flags-a
returns-then-flags-a c = unless-none _ _ c.if-flags-a.true

pub returns : goal.returns
returns c = unless-is _ _ _ c.if-flags-a.false c.worth.ensures
