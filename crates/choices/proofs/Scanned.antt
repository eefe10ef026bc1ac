-- Laws of the scan over the sites: one site more is looked at, and where it ends the choice is found.
-- Assumes nothing.
use mathlib.Core.Path.{◌≡◌, refl, sym, ap, ◌∙◌}
use mathlib.Core.Logic.{by_cases}
use mathlib.Core.Bool.{true≢false, Bool, true, false, not, ◌&&◌}
use mathlib.Core.List.{List}
use Prim.Native.Nat.{ℕ, suc, ◌+◌, ◌≤◌, ◌<◌}
use native.Mathlib.Nat.{le_antisymm}
use native.Mathlib.Omega.{arith}
use native.Mathlib.Decide.{dec_lt}
use lib.Dec.{ltb}
use lib.ListN.{get_or}
use borrow.Author.Tests.{lt-ltb}
use Rattle.std.proofs.Common.{◌↔◌, IsTrue, Option, None}
use Rattle.counting.specs.Words.{◌when◌}
use Rattle.counting.specs.Greatest.{worth_or_none, greatest}
use Rattle.counting.proofs.Greatest.{Best, best-up, best-keep, best-start, best-done}
use Rattle.choices.specs.declared.Found.{Found}
use Rattle.choices.specs.Scan.{unflagged, offered, rank_of, site_of, Better}

-- an offer's rank is the definition's number to compare by
offer-rank : (site x : ℕ) (flag : Bool) → rank_of (offered site x flag) ≡ suc x when (true && not flag)
unfolding ◌when◌
offer-rank site x true = refl
offer-rank site x false = refl

-- where it has one, it is that of the site
offer-site : (site x : ℕ) (flag : Bool) → 0 < rank_of (offered site x flag) → site_of (offered site x flag) ≡ site
offer-site site x true l = absurd (omega arith)
offer-site site x false l = refl

-- a greater worth is not compared by less
offer-less : (site x y : ℕ) (flag : Bool) → x ≤ y → rank_of (offered site x flag) ≤ rank_of (offered site y flag)
offer-less site x y true l = omega arith
offer-less site x y false l = omega arith

-- a site that does not beat the best is not compared by more
pub not-beaten : {beats : Bool} {x y : ℕ} → (IsTrue beats ↔ (x < y)) → beats ≡ false → y ≤ x
not-beaten {x = x} {y} h e = by_cases (dec_lt x y) (λ l. absurd (true≢false (sym (h.1 l) ∙ e))) (λ o. omega arith)

module _ (worth : ℕ → ℕ) (flags : List Bool) where
  -- the scan has come to i
  abbrev pub Scanned : ℕ → Option Found → Type 0
  Scanned i best = Best (worth_or_none (unflagged flags) worth) i (site_of best) (rank_of best)

  -- what the code compares a site by is the definition's
  rank-is : (i x : ℕ) → x ≡ worth (i + 1) → rank_of (offered (i + 1) x (get_or flags (i + 1) false)) ≡ worth_or_none (unflagged flags) worth (i + 1)
  rank-is i x q =
      let l : ltb 0 (i + 1) ≡ true = lt-ltb 0 (i + 1) (omega arith) in
      offer-rank (i + 1) x (get_or flags (i + 1) false)
      ∙ ap (λ (y : ℕ). suc y when (true && not (get_or flags (i + 1) false))) q
      ∙ ap (λ (t : Bool). suc (worth (i + 1)) when (t && not (get_or flags (i + 1) false))) (sym l)

  -- nothing is looked at yet
  pub scan-none : Scanned 0 None
  unfolding ◌when◌
  scan-none = best-start refl

  -- one site more is looked at
  pub scan-more : {best site result : Option Found} {i x : ℕ} → Scanned i best → x ≡ worth (i + 1)
      → site ≡ offered (i + 1) x (get_or flags (i + 1) false) → Better best site result → Scanned (i + 1) result
  scan-more {best} {site} {result} {i} {x} s e q t = go (dec_lt (rank_of best) (rank_of site))
    where
      rank : rank_of site ≡ worth_or_none (unflagged flags) worth (i + 1)
      rank = ap rank_of q ∙ rank-is i x e

      go : Dec (rank_of best < rank_of site) → Scanned (i + 1) result
      go (yes l) =
          let own : site_of site ≡ i + 1 = ap site_of q ∙ offer-site (i + 1) x (get_or flags (i + 1) false) (omega (arith, ap rank_of q, l)) in
          rw (t.up l, own) (best-up s rank l)
      go (no l) = rw (t.keep (omega arith)) (best-keep s rank (omega arith))

  -- a site that cannot be better than the best so far is passed over
  pub scan-pass : (best : Option Found) {site : Option Found} {i x : ℕ} → Scanned i best → worth (i + 1) ≤ x
      → site ≡ offered (i + 1) x (get_or flags (i + 1) false) → rank_of site ≤ rank_of best → Scanned (i + 1) best
  scan-pass best {i = i} {x} s l e k =
      best-keep s (rank-is i (worth (i + 1)) refl)
      (omega (arith, ap rank_of e, offer-less (i + 1) (worth (i + 1)) x (get_or flags (i + 1) false) l))

  -- the scan ends with the choice
  pub scan-all : (best : Option Found) {i m : ℕ} → m ≤ i → i ≤ m → Scanned i best → site_of best ≡ greatest (unflagged flags) worth m
  scan-all best {m = m} a l s = best-done (unflagged flags) worth (rw (le_antisymm l a) at s)
