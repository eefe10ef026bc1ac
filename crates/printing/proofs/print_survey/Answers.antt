use mathlib.Core.Path.{sym}
use Rattle.counting.specs.Bounds.{most_streets, most_sites}
use Rattle.counting.proofs.Parts.{front_length}
use Rattle.printing.proofs.PlanTexts.{survey-few}
use Rattle.printing.proofs.print_survey.Goals as goal

pub shared_ref_as_front-town : goal.shared_ref_as_front-town
shared_ref_as_front-town c = (survey-few c.requires.survey_held.asked).1

pub shared_ref_as_front-town-2 : goal.shared_ref_as_front-town-2
shared_ref_as_front-town-2 c = (survey-few c.requires.survey_held.asked).0

pub slice_bounds-chosen-end : goal.slice_bounds-chosen-end
slice_bounds-chosen-end c = (survey-few c.requires.survey_held.asked).2

pub slice_bounds-print_plan-end-2 : goal.slice_bounds-print_plan-end-2
slice_bounds-print_plan-end-2 c = let few = survey-few c.requires.survey_held.asked in sym (front_length c.args.survey.now.k most_sites few.2)

pub print_plan-requires-clause-plan_asked : goal.print_plan-requires-clause-plan_asked
print_plan-requires-clause-plan_asked c =
    let few = survey-few c.requires.survey_held.asked in
    record {
      survey = c.requires.survey_held.asked;
      streets = front_length c.args.survey.now.n most_streets few.0;
      sites = front_length c.args.survey.now.k most_sites few.2;
    }
