use Rattle.quotients.proofs.Entries.{entry}
use Rattle.quotients.proofs.Quotients.at.Goals as goal

pub returns : goal.returns
returns c = entry c.args.self.now.rows c.args.self.now.right c.args.row c.args.column c.requires
