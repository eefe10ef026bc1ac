-- What a reader has still to read.
-- Assumes nothing.
use Rattle.std.specs.Prelude.{List, ℕ, drop}
use Rattle.file_reader.specs.declared.reader.Reader.{Reader}

-- the bytes of its file from the count on
abbrev pub left : Reader → List ℕ
left r = drop r.count r.file.now
