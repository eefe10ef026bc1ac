-- Laws of the prices in a layer: the best move from one site more is held against them, site by site.
-- Assumes nothing.
use mathlib.Core.Path.{◌≡◌, refl, sym, subst, ◌∙◌}
use mathlib.Core.Logic.{◌≢◌, by_cases}
use mathlib.Core.List.{List}
use Prim.Native.Nat.{ℕ, ◌+◌, ◌*◌, ◌≤◌, ◌<◌}
use native.Mathlib.Nat.{add-zero}
use native.Mathlib.Decide.{dec_lt, ℕ_discrete}
use native.Mathlib.Omega.{arith}
use lib.ListN.{length, set, replicate, get_or-replicate}
use Rattle.counting.specs.Bounds.{most_value, most_price}
use Rattle.counting.specs.Lists.{at, cell}
use Rattle.pairs.specs.Moves.{even, Pair, Row}
use Rattle.pairs.proofs.Moves.{row-some, row-none}
use Rattle.pairs.proofs.Stores.{stored, unstored}
use Rattle.layers.specs.Layers.{Fitting, Layer, Lift, Lifts, Taking, Relaxing}

-- buffers of the same lengths fit as well
pub fitting-same : {w n : ℕ} {after via shares after' via' : List ℕ} → Fitting w n after via shares → length after' ≡ length after
    → length via' ≡ length via → Fitting w n after' via' shares
fitting-same f a v =
    record { after-fits = a ∙ f.after-fits; via-fits = v ∙ f.via-fits; shares-fit = f.shares-fit; few = f.few; few-sites = f.few-sites }

-- one row of the table of gains, told by its first gain
module _ {v : ℕ → ℕ → ℕ} {D : ℕ → ℕ} {a n w : ℕ} (gains pairs : List ℕ) (l : a < w)
    (row : Row v D a n n w (cell gains w a) (cell pairs w a)) (small : (s b : ℕ) → v s b ≤ most_value) where
  -- where the first gain of the row stands
  first : cell gains w a 0 ≡ at gains (a * w)
  first = rw add-zero refl

  -- it is more than 0: each is
  pub gains-some : 0 < at gains (a * w) → (b : ℕ) → b < w → 0 < cell gains w a b
  gains-some k b lb = row-some row (λ s. small s a) 0 b (omega arith) lb (rw first k)

  -- it is 0: the site has no street
  pub gains-none : at gains (a * w) ≡ 0 → (s : ℕ) → s < n → D s ≢ a
  gains-none e = row-none row (λ s. small s a) 0 (omega arith) (first ∙ e)

-- what is covered for the streets of the sites below a, and for those of a, is covered for the sites below a + 1
covers_more : (v : ℕ → ℕ → ℕ) (d D : ℕ → ℕ) (n a b p : ℕ) → ((s : ℕ) → s < n → D s < a → d (D s) + v s b ≤ p + v s (D s))
    → ((s : ℕ) → s < n → D s ≡ a → d a + v s b ≤ p + v s a)
    → (s : ℕ) → s < n → D s < a + 1 → d (D s) + v s b ≤ p + v s (D s)
covers_more v d D n a b p old new s l m =
    by_cases (dec_lt (D s) a) (old s l)
    (λ k. let e : D s ≡ a = omega arith in subst (λ (x : ℕ). d x + v s b ≤ p + v s x) (sym e) (new s l e))

-- no street has been looked at: each site keeps its price
lift-none : {v : ℕ → ℕ → ℕ} {d D : ℕ → ℕ} {n : ℕ} (share b : ℕ) → Lift v d D share 0 n b (d b) n
lift-none share b =
    record {
      keeps = omega arith;
      covers = λ k s l m. absurd (omega arith);
      within = omega arith;
      by = λ l. absurd (omega arith);
      rose = λ l. absurd (omega arith);
      held = λ l. absurd (omega arith);
      same = λ l. refl;
    }

-- so the layer begins with a copy of the prices
pub lifts-start : {v : ℕ → ℕ → ℕ} {D : ℕ → ℕ} {n w : ℕ} (before : List ℕ) (c : ℕ → ℕ) {after via : List ℕ} → after ≡ before → via ≡ replicate w n
    → Lifts v (at before) D c 0 n w (at after) (at via)
lifts-start {n = n} {w} before c prices streets b l = rw (prices, streets, get_or-replicate w b n 0 l) (lift-none {d = at before} (c b) b)

module _ {v : ℕ → ℕ → ℕ} {d D : ℕ → ℕ} {n : ℕ} where
  -- prices stay small
  pub lift-small : {share seen b p t : ℕ} → ((a : ℕ) → d a ≤ most_price) → ((s b : ℕ) → v s b ≤ most_value) → Lift v d D share seen n b p t
      → p ≤ most_price + most_value
  lift-small {b = b} {t = t} low small h =
      by_cases (dec_lt t n) (λ l. omega (arith, h.by l, low (D t), small t b)) (λ l. omega (arith, h.same (omega arith), low b))

  -- a price that is not raised by the streets of the site a, where these raise nothing or the site has no share
  lift-keep : {share a b p t : ℕ} → (0 < share → (s : ℕ) → s < n → D s ≡ a → d a + v s b ≤ p + v s a) → Lift v d D share a n b p t
      → Lift v d D share (a + 1) n b p t
  lift-keep {a = a} {b} {p} new h =
      record {
        keeps = h.keeps;
        covers = λ k. covers_more v d D n a b p (h.covers k) (new k);
        within = h.within;
        by = h.by;
        rose = h.rose;
        held = h.held;
        same = h.same;
      }

  -- a site without streets raises no price
  pub lifts-skip : {a w : ℕ} {c e t : ℕ → ℕ} → ((s : ℕ) → s < n → D s ≢ a) → Lifts v d D c a n w e t → Lifts v d D c (a + 1) n w e t
  lifts-skip none h b l = lift-keep (λ k s m q. absurd (none s m q)) (h b l)

  module _ {share a b p t g u p' t' : ℕ} (best : Pair v D a n n b g u) (some : 0 < g)
      (taking : Taking p t share (d a + g) u p' t') (h : Lift v d D share a n b p t) where
    -- it brings more, and the site has a share: the price rises
    lift-up : 0 < share → p + even < d a + g → Lift v d D share (a + 1) n b p' t'
    lift-up k m =
        let e : p' + even ≡ d a + g = taking.up k m in
        rw (taking.up-street k m)
        (record {
          keeps = omega (arith, h.keeps);
          covers = λ z. covers_more v d D n a b p' (λ s l q. omega (arith, h.covers z s l q)) (λ s l q. omega (arith, best.covers s l q));
          within = omega (arith, best.street some);
          by = λ l. rw (best.stands some) (omega (arith, best.by some));
          rose = λ l. omega (arith, h.keeps);
          held = λ l. k;
          same = λ l. absurd (omega (arith, best.street some));
        })

    -- the best move from the site a is held against the price of the site b
    pub lift-more : Lift v d D share (a + 1) n b p' t'
    lift-more =
        by_cases (ℕ_discrete share 0) (λ z. rw (taking.none z, taking.none-street z) (lift-keep (λ k. absurd (omega arith)) h))
        (λ z. by_cases (dec_lt (p + even) (d a + g)) (lift-up (omega arith))
        (λ m. let few : d a + g ≤ p + even = omega arith in
        rw (taking.keep few, taking.keep-street few) (lift-keep (λ k s l q. omega (arith, best.covers s l q)) h)))

  -- a site's turn begins: no price has been held against its moves
  pub relaxing-start : {a w : ℕ} {c e t : ℕ → ℕ} → Lifts v d D c a n w e t → Relaxing v d D c a n w 0 e t
  relaxing-start h = record { done = λ b l. absurd (omega arith); rest = λ b k l. h b l }

  -- one price more has been
  pub relaxing-more : {a w b x y : ℕ} {c : ℕ → ℕ} (after via : List ℕ) → b < length after → b < length via → Relaxing v d D c a n w b (at after) (at via)
      → Lift v d D (c b) (a + 1) n b x y → Relaxing v d D c a n w (b + 1) (at (set after b x)) (at (set via b y))
  relaxing-more {a} {w} {b} {x} {y} {c} after via la lv h new =
      record {
        done = stored (λ k p t. Lift v d D (c k) (a + 1) n k p t) after via b x y la lv h.done new;
        rest = unstored (λ k p t. Lift v d D (c k) a n k p t) after via b x y w h.rest;
      }

  -- all prices have been
  pub relaxing-end : {a w b : ℕ} {c e t : ℕ → ℕ} → w ≤ b → Relaxing v d D c a n w b e t → Lifts v d D c (a + 1) n w e t
  relaxing-end k h x l = h.done x (omega arith)

  -- the moves from all sites have been held against the prices
  pub lifts-all : {a w : ℕ} {c e t : ℕ → ℕ} → w ≤ a → ((s : ℕ) → s < n → D s < w) → Lifts v d D c a n w e t → Layer v d D c n w e t
  lifts-all k sites h b l =
      let p = h b l in
      record {
        keeps = p.keeps;
        covers = λ z s m. p.covers z s m (omega (arith, sites s m));
        within = p.within;
        by = p.by;
        rose = p.rose;
        held = p.held;
        same = p.same;
      }
