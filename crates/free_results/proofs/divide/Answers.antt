use Rattle.free_results.proofs.Results.{served}
use Rattle.free_results.proofs.divide.Goals as goal

pub returns-clause-division : goal.returns-clause-division
returns-clause-division c = served c.args.town.accepted c.planned-state.ensures.held c.planned-state.ensures.sites.1 c.serve.ensures
