use native.Mathlib.Omega.{arith}
use native.Mathlib.Nat.{le_trans}
use Prim.Native.Nat.{◌<◌}
use Rattle.listing.proofs.Sizes.{listing-fits}
use Rattle.printing.proofs.write_answer.Goals as goal

pub write_listing-requires : goal.write_listing-requires
write_listing-requires c =
    let sites-low : _ = λ i. let low = c.type_inv.sites i in omega arith in
    let division-low : _ = λ i. let low = c.type_inv.division i in omega arith in
    let a = c.args in
    let p = c.requires.listing_asked in
    let out = c.requires.most_text_in_bounds in
    let t = c.in-Ok.total in
    let small : t < 4294967296 = omega arith in
    let fits = listing-fits a.town.m t a.town.rows.now a.sites.now a.division.now p.few-sites small p.few-chosen in
    record { m_in_bounds = p.rows-there; division_in_bounds = le_trans (fits (sites-low) p.few-streets (division-low)) out }
