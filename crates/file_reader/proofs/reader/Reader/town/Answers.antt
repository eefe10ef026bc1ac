use Rattle.file_reader.proofs.Whole.{past-town}
use Rattle.file_reader.proofs.reader.Reader.town.Goals as goal

pub past-requires : goal.past-requires
past-requires c = past-town _ _ c.requires c.in_ok-sizes.ensures.right-number
