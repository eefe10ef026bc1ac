use Rattle.counting.specs.Lists.{at}
use Rattle.counting.specs.Buffers.{list_of, Written}
use Rattle.byte_writer.proofs.write_list.Given as goal

abbrev pub invariant-loop-byte : goal.invariant-loop-byte
invariant-loop-byte l = Written l.initial.out l.i (list_of l.byte-index (at l.list)) l.out l.next
