use native.Mathlib.Omega.{arith}
use lib.ListN.{length}
use Rattle.pairs.proofs.Mending.{renewed}
use Rattle.pairs.proofs.TableRows.{row-in-moves}
use Rattle.pairs.proofs.BestMoves.renew.Goals as goal

pub returns : goal.returns
returns c =
    let p = c.requires in
    let call = c.rebuild in
    let row = row-in-moves c.args.a (length c.args.problem.now.shares.now) p.a_lt_w p.fits.few-sites in
    renewed call.new.pairs call.new.gains (omega (arith, row.ends)) (omega (arith, row.ends)) call.auto.pairs call.auto.gains call.ensures
