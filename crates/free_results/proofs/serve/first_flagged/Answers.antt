use mathlib.Core.Bool.{false}
use native.Mathlib.Omega.{arith}
use lib.ListN.{get_or}
use Rattle.free_results.proofs.Serving.{goes-stop, goes-found, goes-next, goes_end}
use Rattle.free_results.proofs.serve.first_flagged.Goals as goal

pub returns-then-site-eq0 : goal.returns-then-site-eq0
returns-then-site-eq0 c =
    let a = c.args in
    let l = c.loop-site in
    goes-stop (λ x. get_or a.flags.now x false) a.row.now l.site-index l.invariant (omega arith) c.if-site-eq0.true

pub returns-then-flags-from : goal.returns-then-flags-from
returns-then-flags-from c =
    let a = c.args in
    let l = c.loop-site in
    goes-found (λ x. get_or a.flags.now x false) a.row.now l.site-index l.invariant (omega arith) c.if-site-eq0.false
    (rw c.from.ensures at c.if-flags-from.true)

pub loop-site-preserved : goal.loop-site-preserved
loop-site-preserved c =
    let a = c.args in
    let l = c.loop-site in
    goes-next (λ x. get_or a.flags.now x false) a.row.now l.site-index l.invariant (omega arith) c.if-site-eq0.false
    (rw c.from.ensures at c.if-flags-from.false)

pub returns : goal.returns
returns c =
    let a = c.args in
    let l = c.loop-site in
    goes_end (λ x. get_or a.flags.now x false) a.row.now l.site-index l.invariant (omega arith) (omega arith)
