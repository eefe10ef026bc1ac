use native.Mathlib.Omega.{arith}
use Rattle.counting.proofs.Sums.{has-at}
use Rattle.starts.proofs.ListedShares.{sharing-more, sharing-end}
use Rattle.starts.proofs.share_out.Goals as goal

pub bounds-shares-a : goal.bounds-shares-a
bounds-shares-a c =
    let l = c.loop-i in
    let site = c.requires.within _ (has-at c.args.sites.now l.i (omega arith)) in
    omega (arith, site, c.from-a.ensures, l.invariant.size)

pub loop-i-preserved : goal.loop-i-preserved
loop-i-preserved c =
    let a = c.args in
    let l = c.loop-i in
    let site = c.requires.within _ (has-at a.sites.now l.i (omega arith)) in
    rw c.from-a.ensures (sharing-more _ a.m a.sites.now l.shares l.i _ c.requires.apart (omega arith) site.1 c.of_round.ensures.0 l.invariant)

pub returns : goal.returns
returns c = sharing-end _ _ _ _ _ c.loop-i.i (omega arith) c.requires c.loop-i.invariant
