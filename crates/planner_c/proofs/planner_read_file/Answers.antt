use mathlib.Core.Path.{sym}
use Rattle.planner_c.proofs.Reading.{survey-into}
use Rattle.planner_c.proofs.planner_read_file.Goals as goal

pub returns-in-Ok : goal.returns-in-Ok
returns-in-Ok c = survey-into c.read_file.ensures _ c.in-Ok.is
