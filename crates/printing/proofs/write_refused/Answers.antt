use native.Mathlib.Omega.{arith}
use native.Mathlib.Nat.{le_trans}
use Rattle.listing.specs.Listing.{refused_line}
use Rattle.listing.proofs.Rooms.{start-room}
use Rattle.listing.proofs.Sizes.{refused-fits}
use Rattle.printing.proofs.write_refused.Goals as goal

pub write_line-requires : goal.write_line-requires
write_line-requires c =
    let x = c.number.result in
    start-room _ (refused_line x) (le_trans (refused-fits x (omega (arith, c.number.type_inv))) c.requires)
