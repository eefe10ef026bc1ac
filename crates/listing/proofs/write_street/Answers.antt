use mathlib.Core.List.{◌++◌}
use Prim.Native.Nat.{◌+◌}
use Rattle.counting.specs.Lists.{at}
use Rattle.counting.proofs.Laying.{written_next}
use Rattle.listing.specs.Listing.{spaced}
use Rattle.listing.proofs.Streets.{numbers-room, end-room, street-written}
use Rattle.listing.proofs.Rooms.{front-room, next-room}
use Rattle.listing.proofs.write_street.Goals as goal

-- the number, the site and the place, each behind the one before it
pub write_spaced-behind_number-requires : goal.write_spaced-behind_number-requires
write_spaced-behind_number-requires c =
    let a = c.args in
    let found = c.place_of-place in
    let number = spaced (a.s + 1) in
    let site = spaced (at a.division.now a.s) in
    let room = numbers-room a.town.m a.town.rows.now a.division.now a.s found.result found.ensures c.requires.s_in_bounds_2 c.write_list-behind_word.ensures in
    front-room _ _ number site (front-room _ _ (number ++ site) (spaced found.result) room)

pub write_spaced-behind_site-requires : goal.write_spaced-behind_site-requires
write_spaced-behind_site-requires c =
    let a = c.args in
    let found = c.place_of-place in
    let number = spaced (a.s + 1) in
    let site = spaced (at a.division.now a.s) in
    let room = numbers-room a.town.m a.town.rows.now a.division.now a.s found.result found.ensures c.requires.s_in_bounds_2 c.write_list-behind_word.ensures in
    next-room site c.write_spaced-behind_number.ensures (front-room _ _ (number ++ site) (spaced found.result) room)

pub write_spaced-next-requires : goal.write_spaced-next-requires
write_spaced-next-requires c =
    let a = c.args in
    let found = c.place_of-place in
    next-room (spaced found.result) (written_next c.write_spaced-behind_number.ensures c.write_spaced-behind_site.ensures)
    (numbers-room a.town.m a.town.rows.now a.division.now a.s found.result found.ensures c.requires.s_in_bounds_2 c.write_list-behind_word.ensures)

-- the end behind them
pub bounds-out-next : goal.bounds-out-next
bounds-out-next c =
    let a = c.args in
    let found = c.place_of-place in
    let two = written_next c.write_spaced-behind_number.ensures c.write_spaced-behind_site.ensures in
    end-room a.town.m a.town.rows.now a.division.now a.s found.result found.ensures c.requires.s_in_bounds_2
    (written_next c.write_list-behind_word.ensures (written_next two c.write_spaced-next.ensures))

pub returns : goal.returns
returns c =
    let a = c.args in
    let found = c.place_of-place in
    let two = written_next c.write_spaced-behind_number.ensures c.write_spaced-behind_site.ensures in
    street-written a.town.m a.town.rows.now a.division.now a.s found.result found.ensures c.requires.s_in_bounds_2
    (written_next c.write_list-behind_word.ensures (written_next two c.write_spaced-next.ensures))
