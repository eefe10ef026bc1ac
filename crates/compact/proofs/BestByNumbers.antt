-- The best division by the numbers is the best division by the sites: what the passes over the small table are lent, and what they give back.
-- Assumes nothing.
use mathlib.Core.Path.{◌≡◌, sym, ap, ◌∙◌}
use mathlib.Core.List.{List, map}
use Prim.Native.Nat.{ℕ, ◌*◌, ◌≤◌, ◌<◌}
use native.Mathlib.Nat.{mul-le-mul}
use native.Mathlib.Omega.{arith}
use lib.ListN.{length, length-map, take, replicate}
use Rattle.counting.specs.Bounds.{most_streets, most_width, most_entries}
use Rattle.counting.specs.Lists.{at, cell}
use Rattle.counting.proofs.Sums.{at-within}
use Rattle.counting.proofs.Parts.{front_length, front-blank}
use Rattle.division.specs.Shares.{share, InShares, division_total, share_sum}
use Rattle.division.specs.Divide.{divide}
use Rattle.division.specs.Problem.{Problem, tail}
use Rattle.division.proofs.Counts.{division_total-same, in-length}
use Rattle.division.proofs.Best.{divide-in, divide-length, divide-same}
use Rattle.division.proofs.ProblemShares.{share-tail, sited}
use Rattle.division.proofs.Renumbered.{Onto, total-map, in_map, sum-map, divide-map}
use Rattle.compact.specs.Numbered.{Numbered, Columns}

module _ {values shares : List ℕ} {n : ℕ} (problem : Problem values shares n) {sites numbers few : List ℕ}
    (h : Numbered shares sites numbers few (length shares) (length few)) where
  -- number 0 has no share
  no-share : at few 0 ≡ 0
  no-share = h.shared 0 h.some ∙ ap (at shares) h.front ∙ problem.nobody

  -- each site with a share has a number with the same share, and back
  there : Onto (at numbers) (at sites) (tail shares) (tail few)
  there a l =
      let here : share (tail shares) a ≡ at shares a = share-tail shares problem.nobody a in
      let some : 0 < at shares a = omega arith in
      let (u, e) = h.number a (at-within shares a some) some in
      (share-tail few no-share (at numbers a) ∙ h.shared (at numbers a) u ∙ ap (at shares) e ∙ sym here, e)

  back : Onto (at sites) (at numbers) (tail few) (tail shares)
  back x l =
      let here : share (tail few) x ≡ at few x = share-tail few no-share x in
      let less : x < length few = at-within few x (omega arith) in
      (share-tail shares problem.nobody (at sites x) ∙ sym (h.shared x less) ∙ sym here, h.back x less)

  -- only a number can have a small share
  numbered : (x : ℕ) → 0 < share (tail few) x → x < length few
  numbered x l = at-within few x (omega (arith, share-tail few no-share x))

  -- the small table is a problem of as many streets
  pub few-problem : (table : List ℕ) → length table ≡ n * length few → Columns values (length shares) sites table (length few) n → Problem table few n
  few-problem table size columns =
      record {
        size = size;
        small = columns.small;
        nobody = no-share;
        some-site = h.some;
        few-sites = omega (arith, h.fewer, problem.few-sites);
        few = problem.few;
      }

  module _ (D : List ℕ) (e : length D ≡ n) (i : InShares D (tail shares)) where
    -- each street's site is one of the shares' sites
    pub site_within : (s : ℕ) → s < length D → at D s < length shares
    site_within s l = (sited shares D problem.nobody i s l).0

    -- the numbered division is in the small shares
    pub few-in : (N : List ℕ) → N ≡ map (at numbers) D → InShares N (tail few)
    few-in N q = rw q (in_map (at numbers) (at sites) (tail shares) (tail few) there back D i)

    -- it has as many streets
    pub few-length : (N : List ℕ) → N ≡ map (at numbers) D → length N ≡ n
    few-length N q = ap length q ∙ length-map D (at numbers) ∙ e

    -- the shares are for all streets, by the sites and by the numbers
    sum : share_sum (tail shares) ≡ n
    sum = sym (in-length D (tail shares) i) ∙ e

    few-sum : share_sum (tail few) ≡ n
    few-sum = sum-map (at numbers) (at sites) (tail shares) (tail few) there back (cell values (length shares)) n sum

    module _ (table : List ℕ) (columns : Columns values (length shares) sites table (length few) n) (F : List ℕ)
        (best : F ≡ divide (cell table (length few)) n (tail few)) where
      -- each number of the best division by them is a site's
      pub number-within : (s : ℕ) → s < length F → at F s < length few
      number-within s l = (sited few F no-share (rw best (divide-in (cell table (length few)) n (tail few) few-sum)) s l).0

      -- the values by the sites, and by the numbers
      abbrev v : ℕ → ℕ → ℕ
      v = cell values (length shares)

      abbrev w : ℕ → ℕ → ℕ
      w s x = v s (at sites x)

      -- the small table has these
      same : divide (cell table (length few)) n (tail few) ≡ divide w n (tail few)
      same = divide-same (cell table (length few)) w n (tail few) few-sum (λ s x l m. columns.same s x l (numbered x m))

      -- renumbered back it is the best division
      pub back-division : map (at sites) F ≡ divide v n (tail shares)
      back-division =
          ap (map (at sites)) (best ∙ same)
          ∙ divide-map (at numbers) (at sites) (tail shares) (tail few) there back v n sum (λ x y l a b. h.rises x y l (numbered y b))

      -- and totals the same
      pub back_total : division_total (cell table (length few)) F ≡ division_total v (divide v n (tail shares))
      back_total = division_total-same (cell table (length few)) w F even ∙ sym (total-map v (at sites) F) ∙ ap (division_total v) back-division
        where
          long : length F ≡ n
          long = ap length best ∙ divide-length (cell table (length few)) n (tail few)

          even : (s : ℕ) → s < length F → cell table (length few) s (at F s) ≡ w s (at F s)
          even s l = columns.same s (at F s) (omega (arith, long)) (number-within s l)

      -- so what the passes leave by the numbers is what they are to leave by the sites
      pub given_back : (E : List ℕ) (t : ℕ) → E ≡ map (at sites) F
          → t ≡ division_total (cell table (length few)) (divide (cell table (length few)) n (tail few))
          → (t ≡ division_total v (divide v n (tail shares))) × (E ≡ divide v n (tail shares))
      given_back E t renamed total = (total ∙ ap (division_total (cell table (length few))) (sym best) ∙ back_total, renamed ∙ back-division)

-- a result for as many streets
pub as_many : {A : Type 0} (f : ℕ → A) (x : A) (j n : ℕ) → j ≡ n → x ≡ f j → x ≡ f n
as_many f x j n e h = rw e at h

-- the small table is no larger than the table
module _ {values shares : List ℕ} {n : ℕ} (problem : Problem values shares n) (k : ℕ) (fewer : k ≤ length shares) where
  few-area : n * k ≤ most_entries
  few-area = mul-le-mul {n₁ = n} {m₁ = k} {n₂ = most_streets} {m₂ = most_width} problem.few (omega (arith, problem.few-sites))

  -- the front of its buffer is as long as the table, and blank
  pub few-table : (length (take (n * k) (replicate {A = ℕ} most_entries 0)) ≡ n * k) × ((i : ℕ) → at (take (n * k) (replicate {A = ℕ} most_entries 0)) i ≡ 0)
  few-table = (front_length (n * k) most_entries few-area, front-blank (n * k) most_entries few-area)
