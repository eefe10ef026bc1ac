use mathlib.Core.Path.{◌∙◌}
use Prim.Native.Nat.{ℕ, ◌+◌, ◌*◌}
use native.Mathlib.Omega.{arith}
use lib.ListN.{length, set}
use Rattle.division.specs.Prices.{Agree}
use Rattle.queues.proofs.TightRows.{row-stored, listed_more, agree-set}
use Rattle.queues.proofs.tights.TightRows.list_site.Goals as goal

pub returns : goal.returns
returns c =
    let a = c.args in
    let old = a.self.now in
    let r : ℕ = a.y * (length a.division.now + 1) in
    let call = c.fill_row-e in
    let now = call.new.tights in
    let (filled_row, same) = call.ensures in
    let stored = row-stored old.ends a.y call.result (omega (arith, c.requires.y_lt_w, c.requires.fits.few-sites)) filled_row in
    let before : Agree old.tights now r = λ u l. same u l ∙ agree-set old.tights r r 0 (omega arith) u l in
    let ends = agree-set old.ends a.y a.y call.result (omega arith) in
    listed_more a.table.now.shares.now old.tights old.ends a.y now (set old.ends a.y call.result) before ends stored c.requires.listed
