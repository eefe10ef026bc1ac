-- Laws of the walk back: it starts at the raised site, goes down layer by layer, and closes a chain at a meeting or ends with as many
-- different sites as it has passed.
-- Assumes nothing.
use mathlib.Core.Path.{◌≡◌, refl, sym, ap, subst, ◌∙◌}
use mathlib.Core.Logic.{◌≢◌, ⊎_elim}
use mathlib.Core.List.{List}
use Prim.Native.Nat.{ℕ, ◌+◌, ◌-◌, ◌≤◌, ◌<◌}
use native.Mathlib.Nat.{eq-or-lt_of_le}
use native.Mathlib.Omega.{arith}
use lib.ListN.{length, set}
use Rattle.std.specs.Prelude.{Some, None}
use lib.Seq.{get_or-set_same, get_or-set_other}
use Rattle.counting.specs.Bounds.{most_width}
use Rattle.counting.specs.Lists.{at, cell}
use Rattle.counting.proofs.Parts.{part, part_length, part_at}
use Rattle.counting.proofs.Tables.{in_rows, pigeon}
use Rattle.rings.specs.Rings.{Walkable, Linked, Apart, Walked, Found, Linkable}

-- the walk down to layer l, whose sites from a layer on differ
abbrev pub Walking : List ℕ → List ℕ → ℕ → ℕ → ℕ → ℕ → List ℕ → List ℕ → Type 0
Walking vias D w k l from ts xs = Linked (cell vias w) D w k l (at ts) (at xs) × Apart (at xs) from k

-- what holds at l and above it holds from l on
from-here : (P : ℕ → Type 0) (l : ℕ) → P l → ((q : ℕ) → l < q → P q) → (q : ℕ) → l ≤ q → P q
from-here P l here above q a = ⊎_elim (λ e. subst P e here) (above q) (eq-or-lt_of_le a)

-- what was stored stands there
stored_here : (list new : List ℕ) (l x : ℕ) → l < length list → new ≡ set list l x → at new l ≡ x
stored_here list new l x h e = ap (λ (z : List ℕ). at z l) e ∙ get_or-set_same list l x 0 h

-- above it the list is as before
stored-above : (list new : List ℕ) (l x : ℕ) → new ≡ set list l x → (q : ℕ) → l < q → at new q ≡ at list q
stored-above list new l x e q m = ap (λ (z : List ℕ). at z q) e ∙ get_or-set_other list l q x 0 (λ p. omega arith)

-- what was found or not in the layers from l + 1 to k, by the layers' numbers
met : (sites : List ℕ) (l k q : ℕ) → k < length sites → l + 1 + q ≤ k → at (part (l + 1) (k + 1) sites) q ≡ at sites (l + 1 + q)
met sites l k q fits m = part_at (l + 1) (k + 1) sites (omega arith) q (omega arith)

unmet : (sites : List ℕ) {x : ℕ} (l k j : ℕ) → k < length sites → j ≤ k + 1
    → ((q : ℕ) → l + 1 + q < j → at (part (l + 1) (k + 1) sites) q ≢ x) → (q : ℕ) → l < q → q < j → at sites q ≢ x
unmet sites l k j fits m h q a b e =
    let place : l + 1 + (q - (l + 1)) ≡ q = omega arith in
    h (q - (l + 1)) (omega arith) (rw (met sites l k (q - (l + 1)) fits (omega arith), place) e)

-- the sites from layer l on differ up to the first layer j that has the site of layer l again
apart-to : {k : ℕ} {xs : ℕ → ℕ} (l j : ℕ) → Apart xs (l + 1) k → ((q : ℕ) → l < q → q < j → xs q ≢ xs l)
    → (p q : ℕ) → l ≤ p → p < q → q < j → q ≤ k → xs p ≢ xs q
apart-to {xs = xs} l j h before p q a m b n =
    from-here (λ (z : ℕ). z < q → xs z ≢ xs q) l (λ o e. before q (omega arith) b (sym e)) (λ z o i. h z q (omega arith) i n) p a m

-- without a meeting the sites from layer l on differ
pub apart_more : {k : ℕ} (sites : List ℕ) (l : ℕ) → k < length sites → Apart (at sites) (l + 1) k
    → Found (part (l + 1) (k + 1) sites) (at sites l) None → Apart (at sites) l k
apart_more {k} sites l fits h none p q a m b =
    apart-to l (k + 1) h
    (unmet sites l k (k + 1) fits (omega arith) (λ r o. none r (omega (arith, part_length (l + 1) (k + 1) sites (omega arith))))) p q a m (omega arith) b

module _ {via : ℕ → ℕ → ℕ} {D : List ℕ} {w k : ℕ} {ts : ℕ → ℕ} (sites : List ℕ) where
  -- a meeting closes the chain of moves from layer l
  pub closes : (l q : ℕ) → k < length sites → l < k → Linked via D w k l ts (at sites) → Apart (at sites) (l + 1) k
      → Found (part (l + 1) (k + 1) sites) (at sites l) (Some q) → Walked via D w k ts (at sites) l (q + 1)
  closes l q fits less h s (low, here, none) =
      let within : l + 1 + q ≤ k = omega (arith, low, part_length (l + 1) (k + 1) sites (omega arith)) in
      let before = unmet sites l k (l + 1 + q) fits (omega arith) (λ r o. none r (omega arith)) in
      let end : l + (q + 1) ≡ l + 1 + q = omega arith in
      record {
        some = omega arith;
        fits = omega arith;
        trail =
            record {
              street = λ p a b. h.street p a (omega arith);
              site = λ p a b. h.left p a (omega arith);
              differ = λ p r a n b. apart-to l (l + 1 + q) s before p r a n (omega arith) (omega arith);
            };
        closed = rw end (sym (met sites l k q fits within) ∙ here);
        by = λ p a b. h.by p a (omega arith);
        site = λ p a b. h.site p a (omega arith);
      }

-- a walk that comes to layer 0 without a meeting has passed different sites alone
pub fewer : {via : ℕ → ℕ → ℕ} {D : List ℕ} {w k : ℕ} {ts xs : ℕ → ℕ} (l : ℕ) → l ≤ 0 → Linked via D w k l ts xs → Apart xs l k → k < w
fewer {w = w} {k} {xs = xs} l z h s =
    omega (arith, pigeon w (k + 1) xs (λ p q m b. s p q (omega arith) m (omega arith)) (λ p b. h.site p (omega arith) (omega arith)))

module _ {vias D : List ℕ} {w k b : ℕ} (given : Walkable vias D w k b) where
  -- the walk starts at the raised site
  pub linked-start : (ts sites : List ℕ) {xs : List ℕ} → length sites ≡ most_width + 1 → xs ≡ set sites k b → Walking vias D w k k k ts xs
  linked-start ts sites {xs} size e = (linked, λ p q a m n. absurd (omega arith))
    where
      here : at xs k ≡ b
      here = stored_here sites xs k b (omega (arith, given.fits)) e

      linked : Linked (cell vias w) D w k k (at ts) (at xs)
      linked =
          record {
            site = from-here (λ (q : ℕ). q ≤ k → at xs q < w) k (λ m. rw here given.start) (λ q a m. absurd (omega arith));
            street = λ q a m. absurd (omega arith);
            by = λ q a m. absurd (omega arith);
            left = λ q a m. absurd (omega arith);
            next = λ p q. rw here (given.raised p q);
          }

  -- a step down finds what it needs
  pub linkable : (l m : ℕ) (ts xs : List ℕ) → l + 1 ≡ m → m ≤ k → Walking vias D w k m m ts xs → Linkable vias D w l xs
  linkable l m ts xs e n (h, o) =
      let site : at xs (l + 1) < w = rw e (h.site m (omega arith) n) in
      record {
        row_fits = omega (arith, in_rows l k w (at xs (l + 1)) (omega arith) site, given.layers-fit);
        raised = rw e (h.next l e);
        fits = omega (arith, given.fits);
      }

  -- one layer more: the street that raised the site above is one of the division, and its own site was raised a layer earlier
  linked-more : (l : ℕ) (ts xs new-ts new-xs : ℕ → ℕ) → l < k → Linked (cell vias w) D w k (l + 1) ts xs
      → new-ts l ≡ cell vias w l (xs (l + 1)) → new-xs l ≡ at D (cell vias w l (xs (l + 1)))
      → ((q : ℕ) → l < q → new-ts q ≡ ts q) → ((q : ℕ) → l < q → new-xs q ≡ xs q) → Linked (cell vias w) D w k l new-ts new-xs
  linked-more l ts xs new-ts new-xs m h t x old-ts old-xs =
      let held : cell vias w l (xs (l + 1)) < length D = h.next l refl in
      let site : xs (l + 1) < w = h.site (l + 1) (omega arith) (omega arith) in
      record {
        site = from-here (λ (q : ℕ). q ≤ k → new-xs q < w) l (λ a. rw x (given.sited (cell vias w l (xs (l + 1))) held))
            (λ q a n. rw (old-xs q a) (h.site q (omega arith) n));
        street = from-here (λ (q : ℕ). q < k → new-ts q < length D) l (λ a. rw t held) (λ q a n. rw (old-ts q a) (h.street q (omega arith) n));
        by = from-here (λ (q : ℕ). q < k → new-ts q ≡ cell vias w q (new-xs (q + 1))) l (λ a. t ∙ ap (cell vias w l) (sym (old-xs (l + 1) (omega arith))))
            (λ q a n. old-ts q a ∙ h.by q (omega arith) n ∙ ap (cell vias w q) (sym (old-xs (q + 1) (omega arith))));
        left = from-here (λ (q : ℕ). q < k → at D (new-ts q) ≡ new-xs q) l (λ a. ap (at D) t ∙ sym x)
            (λ q a n. ap (at D) (old-ts q a) ∙ h.left q (omega arith) n ∙ sym (old-xs q a));
        next = λ p e. rw x (rw e at (given.back p (xs (l + 1)) (omega arith) site (rw e held)));
      }

  -- after a step down the walk is linked down to layer l, and the sites above still differ
  pub linked-step : (l m : ℕ) (ts xs : List ℕ) {new-ts new-xs : List ℕ} → l + 1 ≡ m → m ≤ k → l < length ts → l < length xs → Walking vias D w k m m ts xs
      → new-ts ≡ set ts l (cell vias w l (at xs (l + 1))) → new-xs ≡ set xs l (at D (cell vias w l (at xs (l + 1))))
      → Walking vias D w k l (l + 1) new-ts new-xs
  linked-step l m ts xs {new-ts} {new-xs} e n in-ts in-xs (h, s) t x =
      let street : ℕ = cell vias w l (at xs (l + 1)) in
      let new-t : at new-ts l ≡ street = stored_here ts new-ts l street in-ts t in
      let new-x : at new-xs l ≡ at D street = stored_here xs new-xs l (at D street) in-xs x in
      let old-t : (q : ℕ) → l < q → at new-ts q ≡ at ts q = stored-above ts new-ts l street t in
      let old-x : (q : ℕ) → l < q → at new-xs q ≡ at xs q = stored-above xs new-xs l (at D street) x in
      let apart : Apart (at new-xs) (l + 1) k = λ p q a i z. rw (old-x p (omega arith), old-x q (omega arith)) (s p q (omega arith) i z) in
      (linked-more l (at ts) (at xs) (at new-ts) (at new-xs) (omega arith) (rw e h) new-t new-x old-t old-x, apart)
