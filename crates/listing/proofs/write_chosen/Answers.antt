use Rattle.counting.proofs.Laying.{written_next}
use Rattle.listing.proofs.Rooms.{byte-written}
use Rattle.listing.proofs.write_chosen.Goals as goal

pub returns : goal.returns
returns c = byte-written 10 (written_next c.write_list-behind_word.ensures c.write_sites-next.ensures) c.requires
