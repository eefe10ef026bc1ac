-- Laws between a town and the best division: the shares that a list of sites makes, the problem that the engine is lent, and what the
-- engine says of the table, said of the town.
-- Assumes nothing.
use mathlib.Core.Path.{◌≡◌, ◌∙◌}
use mathlib.Core.List.{List}
use Prim.Native.Nat.{ℕ, ◌+◌, ◌≤◌, ◌<◌}
use native.Mathlib.Omega.{arith}
use lib.ListN.{length}
use Rattle.counting.specs.Lists.{at, cell}
use Rattle.survey.specs.Town.{Town}
use Rattle.survey.specs.Rows.{value}
use Rattle.tables.specs.Tables.{StreetTable, value_in}
use Rattle.division.specs.Shares.{share, InShares, division_total, shares_of, share_sum}
use Rattle.division.specs.Divide.{divide}
use Rattle.division.specs.Problem.{Problem}
use Rattle.division.proofs.Counts.{share-fits, has-share, division_total-same}
use Rattle.division.proofs.Best.{divide-in, divide-length, divide-same}
use Rattle.division.proofs.Shared.{shares-length, shares_sum}
use Rattle.shares.specs.Rounds.{round_share}
use Rattle.shares.proofs.Sums.{shares-all}
use Rattle.balanced_results.specs.Shareable.{Shareable}
use Rattle.plans.specs.Plans.{plan_total, shares_for, balanced_division}

-- the values and the shares make a problem
pub problem : {n m : ℕ} {values : List ℕ} (k : ℕ) (shares : List ℕ) → n ≡ k → StreetTable n m values → length shares ≡ m + 1
    → at shares 0 ≡ 0 → Problem values shares k
problem k shares e table size nobody = rw (← e) (record {
  size = rw size table.size;
  small = table.small;
  nobody = nobody;
  some-site = omega arith;
  few-sites = omega (arith, table.few-sites);
  few = table.few-streets;
})

module _ (n : ℕ) {m : ℕ} {list : List ℕ} (ok : Shareable m list) where
  -- the shares
  abbrev c : List ℕ
  c = shares_of (round_share n (length list)) list m

  -- they are for all streets
  pub for-all : share_sum c ≡ n
  for-all = shares_sum (round_share n (length list)) list m ok.sites ok.apart ∙ shares-all n (length list) ok.some

  -- only the sites 1 to m have one
  low : (a : ℕ) → 0 < share c a → a ≤ m
  low a h = omega (arith, share-fits c a h, shares-length (round_share n (length list)) list m)

  module _ (v w : ℕ → ℕ → ℕ) (same : (s a : ℕ) → s < n → a ≤ m → v s a ≡ w s a) where
    -- the division goes by their values
    pub as-valued : divide v n c ≡ divide w n c
    as-valued = divide-same v w n c for-all (λ s a l h. same s a l (low a h))

    -- and so does its total
    pub total-valued : division_total v (divide v n c) ≡ division_total w (divide w n c)
    total-valued =
        let D : List ℕ = divide w n c in
        let i : InShares D c = divide-in w n c for-all in
        rw as-valued
        (division_total-same v w D (λ s l. same s (at D s) (omega (arith, divide-length w n c)) (low (at D s) (has-share D c i s l))))

-- what the engine gave for the table and the shares as they were lent, said of the town
module _ (t : Town) (values : List ℕ) (same : (s a : ℕ) → s < t.n → a ≤ t.m → value_in values t.m s a ≡ value t s a) {sites : List ℕ}
    (ok : Shareable t.m sites) {j w : ℕ} {shares : List ℕ} (streets : j ≡ t.n) (width : w ≡ t.m + 1) (given : shares ≡ shares_for t sites) where
  pub as-surveyed : {F : List ℕ} {x : ℕ} → (x ≡ division_total (cell values w) (divide (cell values w) j shares))
      × (F ≡ divide (cell values w) j shares) → (x ≡ plan_total t (balanced_division t sites)) × (F ≡ balanced_division t sites)
  as-surveyed (total, division) = (
    (rw (streets, width, given) at total) ∙ total-valued t.n ok (value_in values t.m) (value t) same,
    (rw (streets, width, given) at division) ∙ as-valued t.n ok (value_in values t.m) (value t) same,
  )
