-- The balanced division as the definitions have it is best.
-- Assumes nothing.
use mathlib.Core.Path.{◌≡◌, refl}
use mathlib.Core.List.{List}
use Prim.Native.Nat.{ℕ}
use Rattle.survey.specs.Town.{Town}
use Rattle.survey.specs.Rows.{value}
use Rattle.division.specs.Shares.{share_sum}
use Rattle.division.proofs.Best.{divide-in, divide-most, divide-first}
use Rattle.plans.specs.Plans.{plan_total, shares_for, balanced_division}
use Rattle.plans.specs.Best.{BestDivision}
use Rattle.balanced_results.specs.Shareable.{Shareable}
use Rattle.balanced_results.proofs.ListShares.{for-all}

pub best-division : (t : Town) (sites : List ℕ) → Shareable t.m sites
    → BestDivision t sites (balanced_division t sites) (plan_total t (balanced_division t sites))
best-division t sites ok =
    let sum : share_sum (shares_for t sites) ≡ t.n = for-all t.n ok in
    record {
      in-shares = divide-in (value t) t.n (shares_for t sites) sum;
      of-streets = refl;
      most = divide-most (value t) t.n (shares_for t sites) sum;
      first = divide-first (value t) t.n (shares_for t sites) sum;
    }
