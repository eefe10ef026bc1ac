use Rattle.counting.proofs.Laying.{written_next}
use Rattle.listing.proofs.write_listing.Goals as goal

pub returns : goal.returns
returns c = written_next (written_next c.write_line-behind_total.ensures c.write_chosen-behind_sites.ensures) c.write_streets.ensures
