-- The floor: each round is sure of the score at its place for each street of its share, so the rounds' total, and the total of the best
-- division in their shares, are no less than the floor.
-- Assumes nothing.
use mathlib.Core.Path.{◌≡◌, sym}
use mathlib.Core.Bool.{true}
use mathlib.Mathlib.Data.Bool.Basic.{dichotomy}
use mathlib.Core.Logic.{⊎_elim}
use mathlib.Core.List.{List}
use Prim.Native.Nat.{ℕ, zero, suc, ◌-◌, ◌*◌, ◌≤◌, ◌<◌}
use native.Mathlib.Nat.{le_trans}
use native.Mathlib.Omega.{arith}
use lib.Dec.{leb}
use lib.ListN.{length, take}
use lib.Seq.{length-take-le}
use borrow.Author.Tests.{leb-true, le-leb}
use Rattle.counting.specs.Words.{one, sum_of}
use Rattle.counting.specs.Lists.{has, distinct, count, sum}
use Rattle.counting.specs.Sites.{Sites, Choice}
use Rattle.counting.specs.Greatest.{greatest, unchosen}
use Rattle.counting.proofs.Refusals.{when-yes, when-none}
use Rattle.counting.proofs.Membership.{one_more, sum-le}
use Rattle.counting.proofs.Greatest.{greatest-of}
use Rattle.division.specs.Shares.{shares_of, division_total, share_sum}
use Rattle.division.specs.Divide.{divide}
use Rattle.division.proofs.Shared.{shares_sum}
use Rattle.division.proofs.Best.{divide-most}
use Rattle.balanced_plan.specs.Rounds.{ordered, free, worth}
use Rattle.balanced_plan.specs.Floor.{depth, added, floor}
use Rattle.counting.proofs.Listed.{has-take, take-distinct}
use Rattle.balanced_plan.proofs.Ordered.{ordered-street, ordered-rising, ordered-sum, first-least}
use Rattle.balanced_plan.proofs.TakenStreets.{free-length}
use Rattle.balanced_plan.proofs.Pigeonhole.{crowd-site}
use Rattle.balanced_plan.proofs.RoundShares.{sites_after, division_after, next_site, rounds-plan, rounds-length, rounds-gain, rounds-free, rounds-in}

-- each of n streets ranks at least t different sites of 1 to m, and gives one of its first p at least the score at the place p
pub record Ranking (v : ℕ → ℕ → ℕ) (score : ℕ → ℕ) (n m t : ℕ) (lists : ℕ → List ℕ) : Type 0 where
  pub apart : (s : ℕ) → s < n → distinct (lists s) ≡ true
  pub sites : (s : ℕ) → s < n → Sites m (lists s)
  pub long : (s : ℕ) → s < n → t ≤ length (lists s)
  pub good : (s a p : ℕ) → s < n → p ≤ t → has a (take p (lists s)) ≡ true → score p ≤ v s a

module _ (v key : ℕ → ℕ → ℕ) (n m : ℕ) (falls : (a s u : ℕ) → s < n → u < n → key a s ≤ key a u → v u a ≤ v s a) where
  -- a site is worth x for each street of its share, where so many free streets give it x or more
  worth-least : (division : List ℕ) → length division ≡ n → (a x q : ℕ) (other : ℕ → ℕ)
      → q ≤ sum (λ s. one (leb x (v s a))) (ordered other (free division) (length division)) → q * x ≤ worth v key q division a
  worth-least division size a x q other many =
      let line : List ℕ = ordered (key a) (free division) (length division) in
      let near : (s : ℕ) → has s line ≡ true → s < n = λ s h. rw size at (ordered-street (key a) (free division) (length division) s h).0 in
      first-least (key a) (λ s. v s a) x q line (ordered-rising (key a) (free division) (length division)) (λ s u h i. falls a s u (near s h) (near u i))
      (rw (ordered-sum (key a) (free division) (λ s. one (leb x (v s a))) other (length division)) many)

  module _ (t : ℕ) (score : ℕ → ℕ) (lists : ℕ → List ℕ) (ranked : Ranking v score n m t lists) where
    -- the first p sites of a street are p different ones of 1 to m
    first-sites : (p s : ℕ) → p ≤ t → s < n → (distinct (take p (lists s)) ≡ true) × Sites m (take p (lists s)) × (p ≤ length (take p (lists s)))
    first-sites p s l h =
        let size : length (take p (lists s)) ≡ p = length-take-le p (lists s) (omega (arith, ranked.long s h)) in
        (take-distinct p (lists s) (ranked.apart s h), λ a i. ranked.sites s h a (has-take p a (lists s) i), omega arith)

    -- the site that a round chooses is worth the score at p for each street of its share
    round-least : (i : ℕ) (chosen division : List ℕ) → Choice m i chosen → length division ≡ n → (p : ℕ) → p ≤ t → (q : ℕ)
        → ((k : ℕ) → k < q → k * (m - i) < count division 0 * (p - i))
        → q * score p ≤ worth v key q division (greatest (unchosen chosen) (worth v key q division) m)
    round-least i chosen division plan size p l zero crowd = omega arith
    round-least i chosen division plan size p l (suc k) crowd =
        let all : ℕ → ℕ = λ s. 0 in
        let streets : List ℕ = ordered all (free division) (length division) in
        let in-town : (s : ℕ) → has s streets ≡ true → s < n = λ s h. rw size at (ordered-street all (free division) (length division) s h).0 in
        let few : k * (m - i) < length streets * (p - i) = rw (free-length all division) (crowd k (omega arith)) in
        let (w, high, new, many) = crowd-site m i chosen plan (λ s. take p (lists s)) streets p k (λ s h. first-sites p s l (in-town s h)) few in
        let good : (s : ℕ) → has s streets ≡ true → has w (take p (lists s)) ≡ true → leb (score p) (v s w) ≡ true =
        λ s h e. le-leb (score p) (v s w) (ranked.good s w p (in-town s h) l e) in
        let enough : suc k ≤ sum (λ s. one (leb (score p) (v s w))) streets =
        le_trans many (sum-le (λ s. one (has w (take p (lists s)))) (λ s. one (leb (score p) (v s w))) streets
        (λ s h. one_more (has w (take p (lists s))) (leb (score p) (v s w)) (good s h))) in
        le_trans (worth-least division size w (score p) (suc k) all enough)
        ((greatest-of (unchosen chosen) (worth v key (suc k) division) m w high new).most w high new)

    module _ (q : ℕ → ℕ) (k : ℕ) (zeros : (s : ℕ) → v s 0 ≡ 0) (few : k ≤ m) (whole : sum_of k q ≡ n)
        (crowd : (i : ℕ) → i < k → (j : ℕ) → j < q i → j * (m - i) < (n - sum_of i q) * (depth m k i - i)) where
      -- round i adds what it is sure of
      round-sure : (i : ℕ) → i < k → added q score t m k i ≤ worth v key (q i) (division_after v key n m q i) (next_site v key n m q i)
      round-sure i l =
          let p : ℕ = depth m k i in
          let D : List ℕ = division_after v key n m q i in
          let left : n - sum_of i q ≡ count D 0 = omega (arith, rounds-free v key n m q k few whole i (omega arith)) in
          let plan : Choice m i (sites_after v key n m q i) = rounds-plan v key n m q i (omega arith) in
          let size : length D ≡ n = rounds-length v key n m q i in
          ⊎_elim (λ o. rw (sym (when-none (score p) (leb p t) o)) (omega arith))
          (λ y. rw (sym (when-yes (score p) (leb p t) y))
          (round-least i (sites_after v key n m q i) D plan size p (leb-true p t y) (q i) (λ j h. rw left at (crowd i l j h))))
          (dichotomy (leb p t))

      -- so i rounds total the floor's first i numbers or more
      floor-upto : (i : ℕ) → i ≤ k → sum_of i (added q score t m k) ≤ division_total v (division_after v key n m q i)
      floor-upto zero l = omega arith
      floor-upto (suc i) l = omega (arith, floor-upto i (omega arith), rounds-gain v key n m q zeros i, round-sure i l)

      -- the rounds' total is no less than the floor
      pub rounds-floor : floor q score t m k ≤ division_total v (division_after v key n m q k)
      rounds-floor = floor-upto k (omega arith)

      -- nor is that of the best division in their shares
      pub best-floor : floor q score t m k ≤ division_total v (divide v n (shares_of q (sites_after v key n m q k) m))
      best-floor =
          let plan : Choice m k (sites_after v key n m q k) = rounds-plan v key n m q k few in
          let shares : List ℕ = shares_of q (sites_after v key n m q k) m in
          let sum_is : share_sum shares ≡ n = rw (plan.size, whole) at (shares_sum q (sites_after v key n m q k) m plan.sites plan.apart) in
          le_trans rounds-floor (divide-most v n shares sum_is (division_after v key n m q k) (rounds-in v key n m q k few whole))
