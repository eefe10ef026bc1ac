-- Laws of shares that are given out site by site along a list.
-- Assumes nothing.
use mathlib.Core.Path.{◌≡◌, sym, ap, ◌∙◌}
use mathlib.Core.Bool.{true, false, true≢false}
use mathlib.Mathlib.Data.Bool.Basic.{dichotomy}
use mathlib.Core.Logic.{◌≢◌, ⊎_elim, by_cases}
use mathlib.Core.List.{List, [], ◌∷◌}
use Prim.Native.Nat.{ℕ, suc, ◌+◌, ◌≤◌, ◌<◌}
use native.Mathlib.Decide.{dec_lt}
use native.Mathlib.Omega.{arith}
use lib.ListN.{length, set, length-set}
use lib.Seq.{get_or-set_same, get_or-set_other, ext_get_or}
use Rattle.counting.specs.Lists.{at, has, distinct}
use Rattle.counting.specs.Sites.{Sites}
use Rattle.counting.proofs.Sums.{list_of-length, list_of-at, distinct-at, has-at, has-index}
use Rattle.shares.specs.Rounds.{round_share}
use Rattle.division.specs.Shares.{share_among, shares_of}
use Rattle.division.specs.Problem.{tail}
use Rattle.division.proofs.Shared.{among_none, among-at}
use Rattle.starts.specs.Given.{Unshared, Shared}

-- the first i sites of the list have their shares, and no other site has one
pub record Sharing (q : ℕ → ℕ) (m : ℕ) (sites shares : List ℕ) (i : ℕ) : Type 0 where
  pub size : length shares ≡ m + 1
  pub given : (j : ℕ) → j < i → at shares (at sites j) ≡ q j
  pub none : (a : ℕ) → ((j : ℕ) → j < i → at sites j ≢ a) → at shares a ≡ 0

-- one site more gets its share
module _ (q : ℕ → ℕ) (m : ℕ) (sites shares : List ℕ) (i x : ℕ) (apart : distinct sites ≡ true) (l : i < length sites) (low : at sites i ≤ m) (e : x ≡ q i)
    (h : Sharing q m sites shares i) where
  pub sharing-more : Sharing q m sites (set shares (at sites i) x) (i + 1)
  sharing-more =
      record {
        size = simp length-set h.size;
        given = λ j k. by_cases (dec_lt j i) (earlier j) (λ n. last j (omega arith));
        none = λ a o. get_or-set_other shares (at sites i) a x 0 (λ s. o i (omega arith) (sym s)) ∙ h.none a (λ j k. o j (omega arith));
      }
    where
      earlier : (j : ℕ) → j < i → at (set shares (at sites i) x) (at sites j) ≡ q j
      earlier j k = get_or-set_other shares (at sites i) (at sites j) x 0 (distinct-at sites j i apart k l) ∙ h.given j k

      last : (j : ℕ) → j ≡ i → at (set shares (at sites i) x) (at sites j) ≡ q j
      last j s = rw s (get_or-set_same shares (at sites i) x 0 (omega (arith, h.size)) ∙ e)

-- all listed sites have their shares
module _ (q : ℕ → ℕ) (m : ℕ) (sites shares : List ℕ) (within : Sites m sites) (apart : distinct sites ≡ true)
    (h : Sharing q m sites shares (length sites)) where
  -- each site has the share that it has among the listed ones
  all-given : (a : ℕ) → at shares a ≡ share_among q sites a
  all-given a = ⊎_elim unlisted listed (dichotomy (has a sites))
    where
      unlisted : has a sites ≡ false → at shares a ≡ share_among q sites a
      unlisted o =
          h.none a (λ j l s. true≢false (sym (has-at sites j l) ∙ ap (λ (b : ℕ). has b sites) s ∙ o)) ∙ sym (among_none q sites a o)

      listed : has a sites ≡ true → at shares a ≡ share_among q sites a
      listed y = let (j, l, s) = has-index a sites y in rw (← s) (h.given j l ∙ sym (among-at q sites j apart l))

  -- behind site 0 stand the shares of the sites 1 to m
  behind : (shares : List ℕ) → length shares ≡ m + 1 → ((a : ℕ) → at shares a ≡ share_among q sites a) → tail shares ≡ shares_of q sites m
  behind [] e right = absurd (omega arith)
  behind (x ∷ c) e right =
      let f : ℕ → ℕ = λ i. share_among q sites (suc i) in
      ext_get_or 0 c (shares_of q sites m) (omega (arith, list_of-length m f)) (λ i l. right (suc i) ∙ sym (list_of-at m f i (omega arith)))

  sharing-all : (tail shares ≡ shares_of q sites m) × (at shares 0 ≡ 0)
  sharing-all = (behind shares h.size all-given, h.none 0 (λ j l s. omega (arith, within (at sites j) (has-at sites j l))))

pub sharing-end : (n m : ℕ) (sites shares shares₀ : List ℕ) (i : ℕ) → length sites ≡ i → Unshared n m sites shares₀
    → Sharing (round_share n (length sites)) m sites shares i → Shared n m sites shares
sharing-end n m sites shares shares₀ i e ok h =
    let (right, nobody) = sharing-all (round_share n (length sites)) m sites shares ok.within ok.apart (rw (← e) at h) in
    record { size = h.size; nobody = nobody; right = right }
