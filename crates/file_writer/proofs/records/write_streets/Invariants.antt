use Rattle.counting.specs.Buffers.{joined, Written}
use Rattle.survey_file.specs.Encode.{street_bytes}
use Rattle.file_writer.proofs.records.write_streets.Given as goal

abbrev pub invariant-loop-s : goal.invariant-loop-s
invariant-loop-s l = Written l.initial.file l.i (joined l.s (street_bytes l.fn.town.m l.fn.town.rows.now)) l.file l.next
