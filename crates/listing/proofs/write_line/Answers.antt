use mathlib.Core.List.{[], ◌∷◌, ◌++◌}
use Rattle.counting.specs.Buffers.{joined}
use Rattle.counting.proofs.Laying.{written_next}
use Rattle.listing.specs.Listing.{spaced}
use Rattle.listing.proofs.Rooms.{front-room, next-room, byte-room, byte-written}
use Rattle.listing.proofs.write_line.Goals as goal

pub write_spaced-next-requires : goal.write_spaced-next-requires
unfolding joined
write_spaced-next-requires c =
    let a = c.args in
    next-room (spaced a.x) c.write_list-behind_word.ensures (front-room a.i _ (a.word.now ++ spaced a.x) (10 ∷ []) c.requires)

pub bounds-out-next : goal.bounds-out-next
unfolding joined
bounds-out-next c = byte-room 10 (written_next c.write_list-behind_word.ensures c.write_spaced-next.ensures) c.requires

pub returns : goal.returns
unfolding joined
returns c = byte-written 10 (written_next c.write_list-behind_word.ensures c.write_spaced-next.ensures) c.requires
