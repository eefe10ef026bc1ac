-- Laws of the rounds' shares: what the first of them sum to, that all of them sum to n, and how many rounds have the one share and the other.
-- Assumes nothing.
use mathlib.Core.Path.{◌≡◌, refl, ap, ◌∙◌}
use mathlib.Core.Bool.{Bool, true, false}
use mathlib.Mathlib.Data.Bool.Basic.{dichotomy}
use mathlib.Core.Logic.{⊎_elim}
use Prim.Native.Nat.{ℕ, zero, suc, min, ◌+◌, ◌-◌, ◌*◌, ◌≤◌, ◌<◌}
use native.Mathlib.Nat.{div-add-mod, mod-lt, le-div_iff_mul-le, mul-le-mul_right}
use native.Mathlib.Omega.{arith}
use lib.Dec.{ltb, eqb}
use borrow.Author.Tests.{lt-ltb, le-ltb, ltb-true, ltb-false, eq-eqb, ne_eqb}
use Rattle.counting.specs.Words.{one, sum_of, count_of}
use Rattle.shares.specs.Rounds.{least_share, larger_shares, round_share}

-- over i numbers, each of them x, or x + 1 while it is one of the first r; with one number more
over-more : (f : ℕ → ℕ) (x r i sum : ℕ) → sum + min i r * f x ≡ i * f x + min i r * f (suc x)
    → sum + f (x + one (ltb i r)) + min (suc i) r * f x ≡ suc i * f x + min (suc i) r * f (suc x)
over-more f x r i sum e = ⊎_elim past early (dichotomy (ltb i r))
  where
    past : ltb i r ≡ false → sum + f (x + one (ltb i r)) + min (suc i) r * f x ≡ suc i * f x + min (suc i) r * f (suc x)
    past o =
        let here : min (suc i) r ≡ min i r = omega (arith, ltb-false i r o) in
        let last : f (x + one (ltb i r)) ≡ f x = rw o (ap f (omega arith)) in
        rw here (omega (arith, last, e))

    early : ltb i r ≡ true → sum + f (x + one (ltb i r)) + min (suc i) r * f x ≡ suc i * f x + min (suc i) r * f (suc x)
    early y =
        let here : min (suc i) r ≡ suc (min i r) = omega (arith, ltb-true i r y) in
        let last : f (x + one (ltb i r)) ≡ f (suc x) = rw y (ap f (omega arith)) in
        rw here (omega (arith, last, e))

over : (f : ℕ → ℕ) (x r i : ℕ) → sum_of i (λ j. f (x + one (ltb j r))) + min i r * f x ≡ i * f x + min i r * f (suc x)
over f x r zero = let none : min 0 r ≡ 0 = omega arith in rw none (omega arith)
over f x r (suc i) = over-more f x r i _ (over f x r i)

module _ (n k : ℕ) where
  -- the rounds that have a share, of i rounds
  abbrev counted : ℕ → ℕ → ℕ
  counted x i = count_of i (λ j. eqb x (round_share n k j))

  -- each of the first r rounds has one more, and no later one
  pub share-larger : (i : ℕ) → i < larger_shares n k → round_share n k i ≡ least_share n k + 1
  share-larger i l = ap (λ (b : Bool). least_share n k + one b) (lt-ltb i (larger_shares n k) l)

  pub share-least : (i : ℕ) → larger_shares n k ≤ i → round_share n k i ≡ least_share n k
  share-least i l = ap (λ (b : Bool). least_share n k + one b) (le-ltb i (larger_shares n k) l) ∙ omega arith

  -- the first i rounds deal q streets each, and one more while they are among the first r
  pub shares-upto : (i : ℕ) → sum_of i (round_share n k) ≡ i * least_share n k + min i (larger_shares n k)
  shares-upto i = omega (arith, over (λ x. x) (least_share n k) (larger_shares n k) i)

  -- n is q k + r
  pub shares_whole : k * least_share n k + larger_shares n k ≡ n
  shares_whole = div-add-mod n k

  module _ (some : 0 < k) where
    -- r is below k
    pub larger-few : larger_shares n k < k
    larger-few = mod-lt n some

    -- all k rounds deal all n streets
    pub shares-all : sum_of k (round_share n k) ≡ n
    shares-all = omega (arith, shares-upto k, shares_whole, larger-few)

    -- r rounds deal q + 1 streets
    pub larger-rounds : counted (suc (least_share n k)) k ≡ larger_shares n k
    larger-rounds =
        let q : ℕ = least_share n k in
        let r : ℕ = larger_shares n k in
        omega (arith, rw (eq-eqb (suc q) (suc q) refl, ne_eqb (suc q) q (λ e. omega arith)) at (over (λ x. one (eqb (suc q) x)) q r k), larger-few)

    -- and k - r deal q
    pub least-rounds : counted (least_share n k) k ≡ k - larger_shares n k
    least-rounds =
        let q : ℕ = least_share n k in
        let r : ℕ = larger_shares n k in
        omega (arith, rw (eq-eqb q q refl, ne_eqb q (suc q) (λ e. omega arith)) at (over (λ x. one (eqb q x)) q r k), larger-few)

    -- where there are as many streets as rounds, each round deals one
    pub least-some : k ≤ n → 0 < least_share n k
    least-some enough = (le-div_iff_mul-le {k = k} {x = 1} {y = n} some).1 (omega arith)

    -- and none deals more than all streets
    pub share-most : (i : ℕ) → round_share n k i ≤ n
    share-most i =
        let r : ℕ = larger_shares n k in
        let once = mul-le-mul_right {m = 1} {n = k} (least_share n k) some in
        ⊎_elim (λ o. rw o (omega (arith, shares_whole, once))) (λ y. rw y (omega (arith, shares_whole, once, ltb-true i r y))) (dichotomy (ltb i r))
