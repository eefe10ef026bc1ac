use Rattle.listing.proofs.Rooms.{written_same}
use Rattle.printing.proofs.PlanTexts.{listing-asked, plan-text}
use Rattle.printing.proofs.print_plan.Goals as goal

pub write_answer-requires : goal.write_answer-requires
write_answer-requires c =
    let kept = c.plan-answer.auto in
    record { listing_asked = listing-asked c.requires.plan_asked kept.division kept.chosen; most_text_in_bounds = c.requires.most_text_in_bounds }

pub returns : goal.returns
returns c = written_same (plan-text c.requires.plan_asked c.plan-answer.ensures) c.write_answer.ensures
