-- Laws of the shares with site 0 in front, and of a division in them.
-- Assumes nothing.
use mathlib.Core.Path.{◌≡◌, refl, sym}
use mathlib.Core.List.{List, [], ◌∷◌}
use Prim.Native.Nat.{ℕ, zero, suc, ◌<◌}
use native.Mathlib.Omega.{arith}
use lib.ListN.{length}
use Rattle.counting.specs.Lists.{at}
use Rattle.division.specs.Shares.{share, InShares}
use Rattle.division.specs.Problem.{tail}
use Rattle.division.proofs.Counts.{share-fits, has-share}

-- a site's share is the number at its index
pub share-tail : (shares : List ℕ) → at shares 0 ≡ 0 → (a : ℕ) → share (tail shares) a ≡ at shares a
unfolding share
share-tail [] e zero = refl
share-tail [] e (suc a) = refl
share-tail (x ∷ c) e zero = sym e
share-tail (x ∷ c) e (suc a) = refl

-- each street's site is one of those that have a share
pub sited : (shares D : List ℕ) → at shares 0 ≡ 0 → InShares D (tail shares) → (s : ℕ) → s < length D
    → (at D s < length shares) × (0 < at shares (at D s))
sited [] D e i s l = absurd (omega (arith, share-fits [] (at D s) (has-share D [] i s l), share-tail [] e (at D s), has-share D [] i s l))
sited (x ∷ c) D e i s l =
    let h : 0 < share c (at D s) = has-share D c i s l in
    (omega (arith, share-fits c (at D s) h), omega (arith, share-tail (x ∷ c) e (at D s)))
