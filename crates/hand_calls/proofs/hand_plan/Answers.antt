use borrow.Author.Rules.{rules}
use Rattle.call_answers.proofs.Answers.{told-error, told-total}
use Rattle.hand_calls.proofs.HandPromises.{hand-tested, hand-claimed}
use Rattle.hand_calls.proofs.hand_plan.Goals as goal

pub returns-in_err-try_hand : goal.returns-in_err-try_hand
returns-in_err-try_hand c = hand-tested _ _ (told-error _ c.in_err-try_hand.ensures _ (search rules))

pub returns : goal.returns
returns c = hand-tested _ _ (told-total c.in_ok-try_hand.ensures (hand-claimed c.in_ok-try_hand.ensures))
