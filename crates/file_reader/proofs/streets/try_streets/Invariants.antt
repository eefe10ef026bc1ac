use mathlib.Core.Path.{◌≡◌}
use Prim.Native.Nat.{◌≤◌}
use lib.ListN.{length, drop}
use Rattle.counting.specs.Words.{first_nonzero}
use Rattle.survey_file.specs.Decode.{past, street_record}
use Rattle.file_reader.proofs.streets.try_streets.Given as goal

abbrev pub invariant-loop-i : goal.invariant-loop-i
invariant-loop-i l =
    (l.at ≤ length l.file) × (drop l.at l.file ≡ past (drop l.from l.file) l.i) × (first_nonzero l.i (street_record l.m (drop l.from l.file)) ≡ 0)
