use Rattle.counting.proofs.Laying.{written_next}
use Rattle.file_writer.proofs.records.write_street.Goals as goal

pub returns : goal.returns
returns c =
    let number = written_next c.write_word-behind_mark.ensures c.write_word-behind_number.ensures in
    written_next number (written_next c.write_list-behind_length.ensures c.write_list.ensures)
