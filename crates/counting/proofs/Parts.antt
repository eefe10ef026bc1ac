-- Laws of a part of a list that was lent and has come back: the numbers from the index `from` up to the index `to` are now ys, and all others
-- are as they were. And of a list's front, which is lent before anything is stored and after.
-- Assumes nothing.
use mathlib.Core.Path.{◌≡◌, sym, ap, ◌∙◌}
use mathlib.Core.List.{List, ◌++◌}
use mathlib.Core.Logic.{by_cases}
use Prim.Native.Nat.{ℕ, ◌+◌, ◌-◌, ◌≤◌, ◌<◌}
use native.Mathlib.Decide.{dec_lt}
use native.Mathlib.Omega.{arith}
use lib.ListN.{length, take, drop, replicate, length-append, length-replicate, get_or-replicate, get_or-append}
use lib.Seq.{length-take-le, get_or-take, get_or-drop, get_or-append-add, take_at}
use borrow.Rule.Slice.PartMut.{mid_of, put_mid, mid_len, same_len_mid}
use Rattle.counting.specs.Lists.{at}
use Rattle.counting.proofs.Sums.{at-past}

-- the part of a list that is lent, and the list with ys in its place, as the goals of a function's proof have them
abbrev pub part : ℕ → ℕ → List ℕ → List ℕ
part from to xs = mid_of from (to - from) xs

abbrev pub put : ℕ → ℕ → List ℕ → List ℕ → List ℕ
put from to xs ys = put_mid from (to - from) xs ys

module _ (from to : ℕ) (xs : List ℕ) (in_list : to ≤ length xs) where
  pub part_length : length (part from to xs) ≡ to - from
  part_length = mid_len from to xs in_list

  -- what stands in the part
  pub part_at : (i : ℕ) → from + i < to → at (part from to xs) i ≡ at xs (from + i)
  part_at i l = get_or-take (to - from) (drop from xs) i 0 (omega arith) ∙ get_or-drop from xs i 0

  -- a part of what is blank from its start on is blank
  pub part-blank : ((i : ℕ) → from ≤ i → at xs i ≡ 0) → (i : ℕ) → at (part from to xs) i ≡ 0
  part-blank h i =
      by_cases (dec_lt i (to - from)) (λ l. part_at i (omega arith) ∙ h (from + i) (omega arith))
      (λ l. at-past (part from to xs) i (omega (arith, part_length)))

  module _ (ys : List ℕ) (order : from ≤ to) (fits : length ys ≡ to - from) where
    pub put-length : length (put from to xs ys) ≡ length xs
    put-length = same_len_mid from (to - from) xs ys (fits ∙ sym part_length)

    -- before the part
    pub put-before : (i : ℕ) → i < from → at (put from to xs ys) i ≡ at xs i
    put-before i l =
        let low : length (take from xs) ≡ from = length-take-le from xs (omega arith) in
        get_or-append (take from xs) (ys ++ drop (to - from) (drop from xs)) 0 i (omega arith) ∙ get_or-take from xs i 0 l

    from_start : (i : ℕ) → at (put from to xs ys) (from + i) ≡ at (ys ++ drop (to - from) (drop from xs)) i
    from_start i =
        let low : length (take from xs) ≡ from = length-take-le from xs (omega arith) in
        rw low at (get_or-append-add (take from xs) (ys ++ drop (to - from) (drop from xs)) i 0)

    -- in the part
    pub put_in : (i : ℕ) → from + i < to → at (put from to xs ys) (from + i) ≡ at ys i
    put_in i l = from_start i ∙ get_or-append ys (drop (to - from) (drop from xs)) 0 i (omega arith)

    -- behind the part
    pub put-behind : (i : ℕ) → to ≤ i → at (put from to xs ys) i ≡ at xs i
    put-behind i l =
        let k : ℕ = to - from in
        let r : ℕ = i - to in
        let place : from + (k + r) ≡ i = omega arith in
        let behind : at (ys ++ drop k (drop from xs)) (k + r) ≡ at (drop k (drop from xs)) r = rw fits at (get_or-append-add ys (drop k (drop from xs)) r 0) in
        rw place at (from_start (k + r) ∙ behind ∙ get_or-drop k (drop from xs) r 0 ∙ get_or-drop from xs (k + r) 0)

-- ---- the front of a list that is lent
module _ (k size : ℕ) (fits : k ≤ size) where
  -- the front of a blank list is as long as it is asked to be
  pub front_length : length (take k (replicate {A = ℕ} size 0)) ≡ k
  front_length = length-take-le k (replicate size 0) (rw length-replicate fits)

  -- and blank
  pub front-blank : (i : ℕ) → at (take k (replicate {A = ℕ} size 0)) i ≡ 0
  front-blank i =
      by_cases (dec_lt i k) (λ l. get_or-take k (replicate size 0) i 0 l ∙ get_or-replicate size i 0 0 (omega arith))
      (λ l. at-past (take k (replicate size 0)) i (omega (arith, front_length)))

module _ (k : ℕ) (front rest : List ℕ) (fits : length front ≡ k) where
  -- a front that has come back is what was put there
  pub back_is : take k (front ++ rest) ≡ front
  back_is = take_at front rest k fits

  pub back-room : k ≤ length (front ++ rest)
  back-room = omega (arith, length-append front rest)

  pub back-size : length (take k (front ++ rest)) ≡ k
  back-size = ap length back_is ∙ fits
