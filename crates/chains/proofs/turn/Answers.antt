use native.Mathlib.Omega.{arith}
use Rattle.chains.proofs.Improving.{valued_same}
use Rattle.chains.proofs.Gains.{ring-mends, ring-sites}
use Rattle.chains.proofs.turn.Goals as goal

pub mend-requires : goal.mend-requires
mend-requires c =
    let p = c.requires in
    let sites = c.args.walk.now.sites in
    record {
      fits = valued_same c.shift.auto.division p.valued;
      by_index = ring-sites sites p.closed (omega (arith, p.moves.fits));
      mended = ring-mends sites p.tables_2 p.closed (omega (arith, p.moves.fits)) c.shift.ensures;
    }
