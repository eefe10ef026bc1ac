use borrow.Author.Rules.{rules}
use mathlib.Core.Path.{◌≡◌, sym, ap, ◌∙◌}
use Prim.Native.Nat.{suc}
use native.Mathlib.Omega.{arith}
use lib.Dec.{eqb}
use Rattle.shares.specs.Rounds.{least_share}
use Rattle.refusals.specs.Refusals.{sites_with}
use Rattle.call_answers.proofs.Refused.{or-error, or-accepted}
use Rattle.loads.proofs.SiteSums.{summed-none}
use Rattle.hand_plans.proofs.Tallies.{share-counted, when-not}
use Rattle.hand_plans.proofs.try_shares.Goals as goal

pub count_streets-requires : goal.count_streets-requires
count_streets-requires c = summed-none (λ i. 1)

-- the sites with a larger share
pub returns-in_err-when : goal.returns-in_err-when
returns-in_err-when c =
    let a = c.args in
    let q = c.least-q.ensures.0 in
    let larger : c.count_sites.result ≡ sites_with (eqb (suc (least_share a.n a.k))) a.m a.division.now =
    share-counted _ a.division.now a.m _ c.requires.0 c.count_streets.ensures _ c.count_sites.ensures
    ∙ ap (λ x. sites_with (eqb x) a.m a.division.now) (omega (arith, q)) in
    or-error _ _ _ _ (search rules) (rw (larger, c.larger-r.ensures.0) at c.in_err-when.ensures ∙ when-not 18 _)

-- and those with the least
pub returns : goal.returns
returns c =
    let a = c.args in
    let q = c.least-q.ensures.0 in
    let larger : c.count_sites.result ≡ sites_with (eqb (suc (least_share a.n a.k))) a.m a.division.now =
    share-counted _ a.division.now a.m _ c.requires.0 c.count_streets.ensures _ c.count_sites.ensures
    ∙ ap (λ x. sites_with (eqb x) a.m a.division.now) (omega (arith, q)) in
    let least : c.count_sites-2.result ≡ sites_with (eqb (least_share a.n a.k)) a.m a.division.now =
    share-counted _ a.division.now a.m _ c.requires.0 c.count_streets.ensures _ c.count_sites-2.ensures
    ∙ ap (λ x. sites_with (eqb x) a.m a.division.now) q in
    (rw (least, c.larger-r.ensures.0) at c.when-2.ensures ∙ when-not 18 _)
    ∙ sym (or-accepted _ _ (rw (larger, c.larger-r.ensures.0) at c.in_ok-when.ensures ∙ when-not 18 _))
