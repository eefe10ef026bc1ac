use mathlib.Core.Path.{refl}
use native.Mathlib.Omega.{arith}
use lib.ListN.{length, length-replicate}
use Prim.Native.Nat.{ℕ}
use Rattle.counting.specs.Bounds.{most_width}
use Rattle.queues.proofs.LeaveLimits.{limits-start}
use Rattle.ties.proofs.PassSteps.{priced-table-of, standing-start, standing-best}
use Rattle.ties.proofs.settle.Goals as goal

pub list_sites-requires : goal.list_sites-requires
list_sites-requires c =
    let p = c.requires in
    priced-table-of c.args.table.now.prices.now c.args.division.now p.problem p.prices p.in_shares

pub loop-s-init : goal.loop-s-init
loop-s-init c =
    let p = c.requires in
    let D = c.args.division.now in
    let table = priced-table-of c.args.table.now.prices.now D p.problem p.prices p.in_shares in (
      refl,
      record {
        problem = p.problem;
        price = p.prices;
        standing = standing-start _ _ _ _ p.in_shares p.priced;
        listed = c.list_sites.ensures;
        fits = omega (arith, table.few-sites, length-replicate {A = ℕ} most_width (length D));
        limited = limits-start 0 D most_width (λ t l. omega (arith, table.sited t l, table.few-sites));
      },
    )

pub returns : goal.returns
returns c = let i = c.loop-s.invariant in standing-best i.1.standing _ i.0 (omega arith)
