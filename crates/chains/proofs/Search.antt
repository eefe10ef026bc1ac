-- Laws of the search: a layer more, what a layer that raises nothing proves, and that a site was raised by one that was raised before.
-- Assumes nothing.
use mathlib.Core.Path.{◌≡◌, refl, sym, ◌∙◌}
use mathlib.Core.Logic.{⊎_elim, by_cases}
use mathlib.Core.List.{List}
use Prim.Native.Nat.{ℕ, zero, suc, ◌+◌, ◌*◌, ◌≤◌, ◌<◌}
use native.Mathlib.Nat.{eq-or-lt_of_le}
use native.Mathlib.Decide.{dec_lt}
use native.Mathlib.Omega.{arith}
use lib.ListN.{length}
use Rattle.std.specs.Prelude.{None}
use Rattle.counting.specs.Bounds.{most_value}
use Rattle.counting.specs.Lists.{at, cell}
use Rattle.counting.proofs.Sums.{at-past, at-within}
use Rattle.counting.proofs.Tables.{in_rows}
use Rattle.division.specs.Prices.{Priced}
use Rattle.division.specs.Problem.{tail}
use Rattle.division.proofs.ProblemShares.{share-tail}
use Rattle.layers.specs.Layers.{Site, Layer}
use Rattle.chains.specs.Chains.{Searched, Raised}

-- a site after a layer goes by the prices before at its own number and at the streets' sites
site-same : {v : ℕ → ℕ → ℕ} {d d' D : ℕ → ℕ} {share n b p t : ℕ} → d b ≡ d' b → ((s : ℕ) → s < n → d (D s) ≡ d' (D s))
    → Site v d D share n b p t → Site v d' D share n b p t
site-same {t = t} here there s = record {
  keeps = omega (arith, s.keeps);
  covers = λ o u m. omega (arith, s.covers o u m, there u m);
  within = s.within;
  by = λ m. omega (arith, s.by m, there t m);
  rose = λ m. omega (arith, s.rose m);
  held = s.held;
  same = λ m. omega (arith, s.same m);
}

-- a layer goes by its prices and raising streets below the width
pub layer-same : {v : ℕ → ℕ → ℕ} {d d' D c e e' t t' : ℕ → ℕ} {n w : ℕ} → ((s : ℕ) → s < n → D s < w) → ((b : ℕ) → b < w → d b ≡ d' b)
    → ((b : ℕ) → b < w → e b ≡ e' b) → ((b : ℕ) → b < w → t b ≡ t' b) → Layer v d D c n w e t → Layer v d' D c n w e' t'
layer-same {D = D} sites before after by h b l = rw (← after b l, ← by b l) (site-same (before b l) (λ s m. before (D s) (sites s m)) (h b l))

module _ {values shares division : List ℕ} {w k : ℕ} {low prices vias : List ℕ} (h : Searched values shares division w k low prices vias)
    (sites : (s : ℕ) → s < length division → at division s < w) where
  -- a layer more, whose prices and raising streets stand behind those of the layers before
  pub searched-next : (via : List ℕ) {high prices' vias' : List ℕ} → ((i : ℕ) → at values i ≤ most_value) → length high ≡ w
      → ((i : ℕ) → i < (k + 1) * w → at prices' i ≡ at prices i) → ((b : ℕ) → b < w → cell prices' w (k + 1) b ≡ at high b)
      → ((i : ℕ) → i < k * w → at vias' i ≡ at vias i) → ((b : ℕ) → b < w → cell vias' w k b ≡ at via b)
      → Layer (cell values w) (at low) (at division) (at shares) (length division) w (at high) (at via)
      → Searched values shares division w (k + 1) high prices' vias'
  searched-next via {high} {prices'} {vias'} few fits prices-kept price vias-kept raiser new = record {
    last = λ b l. sym (price b l);
    layers = λ l m. let o : l ≤ k = omega arith in ⊎_elim (λ e. rw (← e) at this) (before l) (eq-or-lt_of_le o);
    small = λ a. by_cases (dec_lt a w) (rises a) (λ o. omega (arith, at-past high a (omega arith)));
  }
    where
      kept : (l b : ℕ) → l ≤ k → b < w → cell prices w l b ≡ cell prices' w l b
      kept l b m o = sym (prices-kept (l * w + b) (in_rows l (k + 1) w b (omega arith) o))

      this : Layer (cell values w) (cell prices' w k) (at division) (at shares) (length division) w (cell prices' w (k + 1)) (cell vias' w k)
      this = layer-same sites (λ b l. h.last b l ∙ kept k b (omega arith) l) (λ b l. sym (price b l)) (λ b l. sym (raiser b l)) new

      before : (l : ℕ) → l < k
          → Layer (cell values w) (cell prices' w l) (at division) (at shares) (length division) w (cell prices' w (l + 1)) (cell vias' w l)
      before l m =
          layer-same sites (λ b o. kept l b (omega arith) o) (λ b o. kept (l + 1) b (omega arith) o)
          (λ b o. sym (vias-kept (l * w + b) (in_rows l k w b m o))) (h.layers l m)

      rises : (a : ℕ) → a < w → at high a ≤ most_value * (k + 1)
      rises a l =
          let s = new a l in
          let t : ℕ = at via a in
          by_cases (dec_lt t (length division))
          (λ m. omega (arith, s.by m, h.small (at division t), few (t * w + a)))
          (λ o. omega (arith, s.same (omega arith), h.small a))

  -- from layer to layer no price falls
  pub climb : (b l j r : ℕ) → b < w → l + j ≡ r → r ≤ k → cell prices w l b ≤ cell prices w r b
  climb b l zero r o e m = let same : l ≡ r = omega arith in rw same (omega arith)
  climb b l (suc j) r o e m =
      let next : l + j + 1 ≡ r = omega arith in
      rw (← next) (omega (arith, climb b l j (l + j) o refl (omega arith), (h.layers (l + j) (omega arith) b o).keeps))

  -- a site was raised by a street whose own site was raised one layer before
  pub raised_by : (l x : ℕ) → l + 1 < k → x < w → cell vias w (l + 1) x < length division
      → cell vias w l (at division (cell vias w (l + 1) x)) < length division
  raised_by l x m o raised =
      let t : ℕ = cell vias w (l + 1) x in
      let y : ℕ = at division t in
      let upper = h.layers (l + 1) m x o in
      let own = h.layers l (omega arith) y (sites t raised) in
      let lower = h.layers l (omega arith) x o in
      by_cases (dec_lt (cell vias w l y) (length division)) (λ q. q)
      (λ q. absurd (omega (arith, upper.by raised, upper.rose raised, own.same (omega arith), lower.covers (upper.held raised) t raised)))

  -- under the prices of a layer that raises nothing no move has a negative reduced cost: they prove the division best
  pub priced : (l : ℕ) → l + 1 ≡ k → length shares ≡ w → at shares 0 ≡ 0 → Raised (cell vias w l) (length division) w w None
      → Priced (cell values w) (at low) (tail shares) division
  priced l e fit nobody none t lt b held =
      let has : 0 < at shares b = omega (arith, share-tail shares nobody b) in
      let o : b < w = omega (arith, at-within shares b has) in
      let a : ℕ = at division t in
      let here = rw e at (h.layers l (omega arith) a (sites t lt)) in
      let there = rw e at (h.layers l (omega arith) b o) in
      omega (arith, h.last a (sites t lt), h.last b o, here.same (none a (sites t lt)), there.covers has t lt)
