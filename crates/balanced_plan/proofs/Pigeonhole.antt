-- The pigeonhole by double counting: many streets, each near many sites, make a site that is near many streets, also where some sites are
-- chosen already and do not count.
-- Assumes nothing.
use mathlib.Core.Path.{◌≡◌, sym, ◌∙◌}
use mathlib.Core.Bool.{true, not, and-eq-true_iff}
use mathlib.Core.Logic.{by_cases}
use mathlib.Core.List.{List, [], ◌∷◌}
use Prim.Native.Nat.{ℕ, zero, suc, ◌+◌, ◌-◌, ◌*◌, ◌≤◌, ◌<◌}
use native.Mathlib.Nat.{mul-le-mul_left}
use native.Mathlib.Decide.{dec_lt}
use native.Mathlib.Omega.{arith}
use lib.Dec.{ltb}
use lib.ListN.{length}
use borrow.Author.Tests.{not-true}
use Rattle.counting.specs.Words.{one}
use Rattle.counting.specs.Lists.{has, distinct, sum, only}
use Rattle.counting.specs.Buffers.{list_of}
use Rattle.counting.specs.Sites.{Sites, Choice}
use Rattle.counting.specs.Greatest.{unchosen}
use Rattle.counting.proofs.Refusals.{and_both}
use Rattle.counting.proofs.Membership.{has-head, has-tail, sum-le, sum-two, sum-length, one_more, one-not, distinct-within}
use Rattle.counting.proofs.Sums.{list_of-length, list_of-at, has-at, has-index}
use Rattle.counting.proofs.Greatest.{unchosen-yes}
use Rattle.counting.proofs.Listed.{has-only, only-has, only-length, only-distinct, sum-even, sum-parts}

-- what is near, counted street by street, is no more than the same counted site by site
swap : (near : ℕ → ℕ → ℕ) (U W : List ℕ) → sum (λ s. sum (near s) W) U ≤ sum (λ w. sum (λ s. near s w) U) W
swap near [] W = omega arith
swap near (u ∷ U) W =
    omega (arith, swap near U W, sum-two (near u) (λ w. sum (λ s. near s w) U) (λ w. sum (λ s. near s w) (u ∷ U)) W (λ w h. omega arith))

-- where a sum is above q for each number of a list, one of them is above q
above : (f : ℕ → ℕ) (q : ℕ) (W : List ℕ) → q * length W < sum f W → (w : ℕ) × (has w W ≡ true) × (q < f w)
above f q [] l = absurd (omega arith)
above f q (a ∷ W) l =
    by_cases (dec_lt q (f a)) (λ m. (a, has-head a W, m)) (λ n. let (w, h, m) = above f q W (omega arith) in (w, has-tail w a W h, m))

-- where each street of U is near at least c sites of W, and q for each site is fewer than that in all, some site of W is near more than q streets
pub crowded : (near : ℕ → ℕ → ℕ) (U W : List ℕ) (c q : ℕ) → ((s : ℕ) → has s U ≡ true → c ≤ sum (near s) W) → q * length W < length U * c
    → (w : ℕ) × (has w W ≡ true) × (q < sum (λ s. near s w) U)
crowded near U W c q many few =
    above (λ w. sum (λ s. near s w) U) q W (omega (arith, sum-even c U, sum-le (λ s. c) (λ s. sum (near s) W) U many, swap near U W))

-- ---- sites that are not chosen
-- the sites 1 to m
abbrev all_sites : ℕ → List ℕ
all_sites m = list_of m suc

-- each number of that list is one of them
sites-of : (m : ℕ) → Sites m (all_sites m)
sites-of m a h =
    let (i, l, e) = has-index a (all_sites m) h in
    let e' : suc i ≡ a = sym (list_of-at m suc i (omega (arith, list_of-length m suc))) ∙ e in
    (omega arith, omega (arith, list_of-length m suc))

-- and each of them stands in it
sites-has : (m a : ℕ) → 0 < a → a ≤ m → has a (all_sites m) ≡ true
sites-has m zero l h = absurd (omega arith)
sites-has m (suc i) l h = rw (list_of-at m suc i h) at (has-at (all_sites m) i (omega (arith, list_of-length m suc)))

module _ (m i : ℕ) (chosen : List ℕ) (plan : Choice m i chosen) where
  -- the sites that are left to choose
  abbrev choices : List ℕ
  choices = only (unchosen chosen) (all_sites m)

  -- they are at most m - i
  choices-length : length choices + i ≤ m
  choices-length =
      let chosen-sites : i ≤ sum (λ a. one (has a chosen)) (all_sites m) =
      rw plan.size at (distinct-within chosen (all_sites m) plan.apart (λ a h. sites-has m a (plan.sites a h).0 (plan.sites a h).1)) in
      omega (
        arith,
        chosen-sites,
        only-length (unchosen chosen) (all_sites m),
        sum-two (λ a. one (unchosen chosen a)) (λ a. one (has a chosen)) (λ a. 1) (all_sites m) (λ a h. either a),
        sum-length (λ a. true) (all_sites m),
        list_of-length m suc,
      )
    where
      either : (a : ℕ) → one (unchosen chosen a) + one (has a chosen) ≤ 1
      either a =
          let new : unchosen chosen a ≡ true → not (has a chosen) ≡ true = λ e. ((and-eq-true_iff (ltb 0 a) (not (has a chosen))).0 e).1 in
          omega (arith, one_more (unchosen chosen a) (not (has a chosen)) new, one-not (has a chosen))

  -- of different sites at most i are chosen: the others are left to choose
  near-choices : (near : List ℕ) → distinct near ≡ true → Sites m near → length near ≤ i + sum (λ w. one (has w near)) choices
  near-choices near d w =
      let old : List ℕ = only (λ a. has a chosen) near in
      let new : List ℕ = only (λ a. not (has a chosen)) near in
      omega (
        arith,
        sum-parts (λ a. has a chosen) near,
        only-length (λ a. has a chosen) near,
        only-length (λ a. not (has a chosen)) near,
        distinct-within old chosen (only-distinct (λ a. has a chosen) near d) (λ a h. (only-has (λ a. has a chosen) a near h).1),
        sum-length (λ a. has a old) chosen,
        plan.size,
        distinct-within new choices (only-distinct (λ a. not (has a chosen)) near d) inside,
        sum-le (λ a. one (has a new)) (λ a. one (has a near)) choices
            (λ a h. one_more (has a new) (has a near) (λ e. (only-has (λ a. not (has a chosen)) a near e).0)),
      )
    where
      inside : (a : ℕ) → has a (only (λ a. not (has a chosen)) near) ≡ true → has a choices ≡ true
      inside a h =
          let (here, new) = only-has (λ a. not (has a chosen)) a near h in
          let (low, high) = w a here in
          let free : unchosen chosen a ≡ true = unchosen-yes chosen a low (not-true (has a chosen) new) in
          has-only (unchosen chosen) a (all_sites m) ∙ and_both (has a (all_sites m)) (unchosen chosen a) (sites-has m a low high) free

  -- where streets are near p different sites each, some site that is not chosen is near more than k of them
  pub crowd-site : (near : ℕ → List ℕ) (U : List ℕ) (p k : ℕ)
      → ((s : ℕ) → has s U ≡ true → (distinct (near s) ≡ true) × Sites m (near s) × (p ≤ length (near s))) → k * (m - i) < length U * (p - i)
      → (w : ℕ) × (w ≤ m) × (unchosen chosen w ≡ true) × (k < sum (λ s. one (has w (near s))) U)
  crowd-site near U p k listed few =
      let far : (s : ℕ) → has s U ≡ true → p - i ≤ sum (λ w. one (has w (near s))) choices =
      λ s h. omega (arith, (listed s h).2, near-choices (near s) (listed s h).0 (listed s h).1) in
      let small : k * length choices ≤ k * (m - i) = mul-le-mul_left k (omega (arith, choices-length)) in
      let (w, h, many) = crowded (λ s w. one (has w (near s))) U choices (p - i) k far (omega arith) in
      let (here, new) = only-has (unchosen chosen) w (all_sites m) h in
      (w, (sites-of m w here).1, new, many)
