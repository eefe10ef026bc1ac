-- Laws of the best moves from a site: a street more is looked at, and what a gain of 0 says.
-- Assumes nothing.
use mathlib.Core.Path.{◌≡◌}
use mathlib.Core.Logic.{◌≢◌, by_cases}
use mathlib.Core.List.{List}
use Prim.Native.Nat.{ℕ, ◌+◌, ◌-◌, ◌≤◌, ◌<◌}
use native.Mathlib.Nat.{le_antisymm}
use native.Mathlib.Decide.{dec_lt}
use native.Mathlib.Omega.{arith}
use borrow.Author.Count.{below_more}
use lib.ListN.{length, set, replicate, length-replicate, get_or-replicate, get_or-eq_default}
use Rattle.counting.specs.Bounds.{most_value}
use Rattle.counting.specs.Lists.{at}
use Rattle.pairs.specs.Moves.{even, Pair, Row, Better, Meeting}
use Rattle.pairs.proofs.Stores.{stored, unstored}

-- a list of zeros reads as 0 everywhere
pub zeros_at : (list : List ℕ) (n : ℕ) → list ≡ replicate n 0 → (i : ℕ) → at list i ≡ 0
zeros_at list n e i =
    rw e (by_cases (dec_lt i n) (get_or-replicate n i 0 0) (λ o. get_or-eq_default (replicate n 0) 0 (rw length-replicate (omega arith))))

module _ {v : ℕ → ℕ → ℕ} {D : ℕ → ℕ} {a n : ℕ} where
  -- no street has been looked at: a gain of 0 stands for no move
  pair-none : (b t : ℕ) → Pair v D a 0 n b 0 t
  pair-none b t =
      record {
        covers = λ s l e. absurd (omega arith);
        street = λ l. absurd (omega arith);
        stands = λ l. absurd (omega arith);
        by = λ l. absurd (omega arith);
        small = omega arith;
      }

  -- a cleared row is one of no streets
  pub row-start : {w : ℕ} (size : ℕ) (gains : List ℕ) (t : ℕ → ℕ) → gains ≡ replicate size 0 → Row v D a 0 n w (at gains) t
  row-start size gains t e b l = rw (zeros_at gains size e b) (pair-none b (t b))

  -- a street of another site changes nothing
  pub row-skip : {s w : ℕ} {g t : ℕ → ℕ} → D s ≢ a → Row v D a s n w g t → Row v D a (s + 1) n w g t
  row-skip {s} {g = g} d h b l =
      record {
        covers = below_more (λ r. D r ≡ a → v r b + even ≤ g b + v r a) s (h b l).covers (λ e. absurd (d e));
        street = (h b l).street;
        stands = (h b l).stands;
        by = (h b l).by;
        small = (h b l).small;
      }

  -- a street of the site is held against the best move so far
  pub pair-more : {s b g t g' t' : ℕ} → s < n → D s ≡ a → v s a ≤ most_value → v s b ≤ most_value
      → Better g t (v s b + even - v s a) s g' t' → Pair v D a s n b g t → Pair v D a (s + 1) n b g' t'
  pair-more {s} {b} {g} {t} {g'} {t'} l e la lb o h = by_cases (dec_lt g (v s b + even - v s a)) up (λ d. keep (omega arith))
    where
      up : g < v s b + even - v s a → Pair v D a (s + 1) n b g' t'
      up m =
          rw (o.up m, o.up-street m)
          (record {
            covers = below_more (λ r. D r ≡ a → v r b + even ≤ v s b + even - v s a + v r a) s (λ r k q. omega (arith, h.covers r k q)) (λ q. omega arith);
            street = λ k. l;
            stands = λ k. e;
            by = λ k. omega arith;
            small = omega arith;
          })

      keep : v s b + even - v s a ≤ g → Pair v D a (s + 1) n b g' t'
      keep m =
          rw (o.keep m, o.keep-street m)
          (record {
            covers = below_more (λ r. D r ≡ a → v r b + even ≤ g + v r a) s h.covers (λ q. omega arith);
            street = h.street;
            stands = h.stands;
            by = h.by;
            small = h.small;
          })

  -- all streets have been looked at
  pub row-end : {s w : ℕ} {g t : ℕ → ℕ} → n ≤ s → s ≤ n → Row v D a s n w g t → Row v D a n n w g t
  row-end k l h = rw (le_antisymm l k) at h

  -- a street's turn begins: no site has seen it
  pub meeting-start : {s w : ℕ} {g t : ℕ → ℕ} → Row v D a s n w g t → Meeting v D a s n w 0 g t
  meeting-start h = record { done = λ b l. absurd (omega arith); rest = λ b k l. h b l }

  -- one site more has seen it
  pub meeting-more : {s w b x y : ℕ} (gains pairs : List ℕ) → b < length gains → b < length pairs → Meeting v D a s n w b (at gains) (at pairs)
      → Pair v D a (s + 1) n b x y → Meeting v D a s n w (b + 1) (at (set gains b x)) (at (set pairs b y))
  meeting-more {s} {w} {b} {x} {y} gains pairs lg lp h new =
      record {
        done = stored (λ k g t. Pair v D a (s + 1) n k g t) gains pairs b x y lg lp h.done new;
        rest = unstored (λ k g t. Pair v D a s n k g t) gains pairs b x y w h.rest;
      }

  -- all sites have seen it
  pub meeting-end : {s w b : ℕ} {g t : ℕ → ℕ} → w ≤ b → Meeting v D a s n w b g t → Row v D a (s + 1) n w g t
  meeting-end k h x l = h.done x (omega arith)

  module _ {w : ℕ} {g t : ℕ → ℕ} (h : Row v D a n n w g t) (small : (s : ℕ) → v s a ≤ most_value) where
    -- one gain of a site is more than 0: each is
    pub row-some : (b c : ℕ) → b < w → c < w → 0 < g b → 0 < g c
    row-some b c lb lc l = omega (arith, (h c lc).covers (t b) ((h b lb).street l) ((h b lb).stands l), small (t b))

    -- one gain of a site is 0: it has no street
    pub row-none : (b : ℕ) → b < w → g b ≡ 0 → (s : ℕ) → s < n → D s ≢ a
    row-none b lb z s l e = omega (arith, (h b lb).covers s l e, small s)

-- the site a has the same streets in both divisions
abbrev pub Alike : ℕ → (ℕ → ℕ) → (ℕ → ℕ) → ℕ → Type 0
Alike n D E a = (s : ℕ) → s < n → (E s ≡ a → D s ≡ a) × (D s ≡ a → E s ≡ a)

-- and then the same best moves
pub row-alike : {v : ℕ → ℕ → ℕ} {D E : ℕ → ℕ} {a n w : ℕ} {g t : ℕ → ℕ} → Alike n D E a → Row v D a n n w g t → Row v E a n n w g t
row-alike {t = t} same h b l =
    let p = h b l in
    record {
      covers = λ s k e. p.covers s k ((same s k).0 e);
      street = p.street;
      stands = λ k. (same (t b) (p.street k)).1 (p.stands k);
      by = p.by;
      small = p.small;
    }
