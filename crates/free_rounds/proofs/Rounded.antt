-- Laws of the state: with one site more it holds what it should, and what it chooses is the free plan's choice.
-- Assumes nothing.
use mathlib.Core.Path.{◌≡◌, refl, sym, ap, ◌∙◌}
use mathlib.Core.Bool.{Bool, true, not, ◌&&◌}
use mathlib.Core.List.{List, [], ◌∷◌, ◌++◌}
use Prim.Native.Nat.{ℕ, ◌+◌, ◌*◌, ◌≤◌, ◌<◌, max}
use native.Mathlib.Numerals.{add-one}
use native.Mathlib.Omega.{arith}
use native.Mathlib.Decide.{dec_lt}
use lib.Dec.{ltb}
use lib.ListN.{length, take, drop, set, length-set, length-take, length-append, length-drop, length-replicate, get_or-replicate, get_or-append, replicate}
use lib.Seq.{take-suc-set, get_or-take, length-take-le}
use Rattle.counting.specs.Bounds.{most_streets, most_sites, most_value}
use Rattle.counting.specs.Words.{sum_of}
use Rattle.counting.specs.Lists.{at}
use Rattle.counting.specs.Greatest.{greatest, unchosen}
use Rattle.counting.specs.Buffers.{Mapped}
use Rattle.counting.proofs.Greatest.{greatest-same}
use Rattle.counting.proofs.Flagging.{flags-none, flags-more}
use Rattle.counting.proofs.Sums.{sum_of-same, at-past}
use Rattle.tables.specs.Tables.{site_value}
use Rattle.free_plan.specs.Greedy.{best, total, total_with, pick}
use Rattle.free_plan.proofs.Totals.{best-append, best-le, total-step, total-bound}
use Rattle.free_plan.proofs.Weighed.{best-with, total-times, total-with-times}
use Rattle.free_rounds.proofs.RoundLoops.{bounded-same}
use Rattle.free_rounds.specs.declared.State.{State}
use Rattle.choices.specs.Scan.{unflagged}
use Rattle.free_rounds.specs.Held.{Held, Bounded, Bounds, Scores, sites_of, empty_state, with_none, with_site}

-- the empty state holds nothing
pub held_none : (v : ℕ → ℕ → ℕ) (n : ℕ) → Held v n empty_state
held_none v n =
    record {
      chosen-size = length-replicate {A = ℕ} 64 0;
      bests-size = length-replicate {A = ℕ} 400 0;
      flags = flags-none;
      bests = λ s l. nought s (dec_lt s 400);
    }
  where
    nought : (s : ℕ) → Dec (s < 400) → at (replicate 400 0) s ≡ 0
    nought s (yes l) = get_or-replicate 400 s 0 0 l
    nought s (no l) = at-past (replicate 400 0) s (rw length-replicate (omega arith))

-- no site raises the total of none by more than 400 times the greatest value
bounds-none : (v : ℕ → ℕ → ℕ) (n : ℕ) → n ≤ 400 → ((s a : ℕ) → v s a ≤ most_value) → Bounds v n empty_state
bounds-none v n few low =
    record {
      size = length-replicate {A = ℕ} 65 39600000;
      right = λ a l. omega (arith, get_or-replicate {A = ℕ} 65 a 39600000 0 l, total-bound v n (a ∷ []) 99000 (λ s k b. low s b));
      small = λ a. small a (dec_lt a 65);
    }
  where
    small : (a : ℕ) → Dec (a < 65) → at (replicate 65 39600000) a ≤ 39600000
    small a (yes l) = omega (arith, get_or-replicate {A = ℕ} 65 a 39600000 0 l)
    small a (no l) = omega (arith, at-past (replicate 65 39600000) a (rw length-replicate (omega arith)))

pub start-holds : (v : ℕ → ℕ → ℕ) (n : ℕ) (state : State) → n ≤ 400 → state ≡ empty_state
    → (state.count ≡ 0) × (sites_of state ≡ []) × Held v n state × ((c : ℕ → ℕ → ℕ) → ((s a : ℕ) → c s a ≤ most_value) → Bounds c n state)
start-holds v n state few e = rw e (refl, refl, held_none v n, λ c low. bounds-none c n few low)

-- the state with one site more
abbrev pub state_with : State → ℕ → List ℕ → State
state_with state site bests =
    record {
      chosen = set state.chosen state.count site;
      count = state.count + 1;
      flags = set state.flags site true;
      bests = bests;
      bounds = state.bounds;
    }

module _ {v : ℕ → ℕ → ℕ} {n : ℕ} {state : State} (h : Held v n state) (l : state.count < most_sites) (site : ℕ) where
  pub sites-more : take (state.count + 1) (set state.chosen state.count site) ≡ sites_of state ++ (site ∷ [])
  sites-more = rw add-one (take-suc-set state.chosen state.count site (omega (arith, h.chosen-size)))

  pub held_more : {part : List ℕ} (row : List ℕ) → site < 256 → n ≤ most_streets → ((s : ℕ) → s < n → at row s ≡ v s site)
      → Mapped (λ s x. max x (at row s)) (take n state.bests) part (length (take n state.bests))
      → Held v n (state_with state site (part ++ drop n state.bests))
  held_more {part} row small few same t =
      let whole : length (take n state.bests) ≡ n = length-take-le n state.bests (omega (arith, h.bests-size)) in
      let front : length part ≡ n = t.size ∙ whole in
      record {
        chosen-size = simp length-set h.chosen-size;
        bests-size = omega (arith, length-append part (drop n state.bests), length-drop n state.bests, h.bests-size);
        flags = rw sites-more (flags-more state.flags (sites_of state) site small h.flags);
        bests = λ s ls.
            let old : at (take n state.bests) s ≡ best (v s) (sites_of state) = get_or-take n state.bests s 0 ls ∙ h.bests s ls in
            get_or-append part (drop n state.bests) 0 s (omega arith) ∙ t.done s (omega arith) ∙ ap (λ (x : ℕ). max x (at row s)) old
            ∙ ap (λ (x : ℕ). max (best (v s) (sites_of state)) x) (same s ls) ∙ best-with (v s) (sites_of state) site
            ∙ ap (λ (S : List ℕ). best (v s) S) (sym sites-more);
      }

-- two sites more score a street the same in either order
swapped : (f : ℕ → ℕ) (S : List ℕ) (a b : ℕ) → best f (S ++ (a ∷ b ∷ [])) ≡ best f ((S ++ (b ∷ [])) ++ (a ∷ []))
swapped f S a b = omega (arith, best-append f S (a ∷ b ∷ []), best-append f (S ++ (b ∷ [])) (a ∷ []), best-append f S (b ∷ []))

-- with one site more no other raises the total by more than it did
rise-falls : (v : ℕ → ℕ → ℕ) (n : ℕ) (S : List ℕ) (a b : ℕ) → total_with v n (S ++ (b ∷ [])) a + total v n S ≤ total_with v n S b + total_with v n S a
rise-falls v n S a b =
    omega (
      arith,
      total-step v n S (b ∷ []) a,
      sum_of-same n (λ s. best (v s) (S ++ (a ∷ b ∷ []))) (λ s. best (v s) ((S ++ (b ∷ [])) ++ (a ∷ []))) (λ s l. swapped (v s) S a b),
    )

-- so the bounds stay bounds, whatever counts for a street
pub bounds-more : {v : ℕ → ℕ → ℕ} {n : ℕ} {state : State} → Held v n state → state.count < most_sites → (site : ℕ)
    → (c : ℕ → ℕ → ℕ) → Bounds c n state → Bounds c n (state_with state site state.bests)
bounds-more {v} {n} {state} h l site c b =
    rw (sites-more h l site)
    (record { size = b.size; right = λ a k. omega (arith, b.right a k, rise-falls c n (sites_of state) a site); small = b.small })

-- the state with other bounds
abbrev pub state_bounds : State → List ℕ → State
state_bounds state bounds =
    record { chosen = state.chosen; count = state.count; flags = state.flags; bests = state.bests; bounds = bounds }

-- it holds what it did
pub held-bounds : {v : ℕ → ℕ → ℕ} {n : ℕ} {state : State} (bounds : List ℕ) → Held v n state → Held v n (state_bounds state bounds)
held-bounds bounds h = record { chosen-size = h.chosen-size; bests-size = h.bests-size; flags = h.flags; bests = h.bests }

-- each street's best is a score
pub bests-small : (v : ℕ → ℕ → ℕ) (n : ℕ) (state : State) → Held v n state → ((s a : ℕ) → v s a ≤ 1000) → Scores (take n state.bests)
bests-small v n state h low s = go (dec_lt s n)
  where
    go : Dec (s < n) → at (take n state.bests) s ≤ 1000
    go (yes l) = rw (get_or-take n state.bests s 0 l, h.bests s l) (best-le (v s) 1000 (sites_of state) (λ a i. low s a))
    go (no l) = rw (at-past (take n state.bests) s (omega (arith, length-take n state.bests))) (omega arith)

-- the sum of what the bests count is the total of the sites
pub total-is : (w : ℕ → ℕ) (v : ℕ → ℕ → ℕ) (n : ℕ) (state : State) → Held v n state
    → sum_of n (λ s. w s * at (take n state.bests) s) ≡ total (λ s a. w s * v s a) n (sites_of state)
total-is w v n state h =
    sum_of-same n _ _ (λ s l. ap (λ (x : ℕ). w s * x) (get_or-take n state.bests s 0 l ∙ h.bests s l)) ∙ sym (total-times w v n (sites_of state))

module _ (w : ℕ → ℕ) (values : List ℕ) {n : ℕ} {state : State} (h : Held (site_value values n) n state) where
  -- the sum of what the better of best and value counts is the total with the site
  with-is : (a : ℕ) → with_site w values n (take n state.bests) a ≡ total_with (λ s a. w s * site_value values n s a) n (sites_of state) a
  with-is a =
      sum_of-same n _ _
      (λ s l. ap (λ (x : ℕ). w s * max x (site_value values n s a)) (get_or-take n state.bests s 0 l ∙ h.bests s l))
      ∙ sym (total-with-times w (site_value values n) n (sites_of state) a)

  -- the site of greatest sum among those not flagged is the round's choice
  pub choice-is : (m : ℕ) → m ≤ most_sites
      → greatest (unflagged state.flags) (with_site w values n (take n state.bests)) m
      ≡ pick (λ s a. w s * site_value values n s a) n m (sites_of state)
  choice-is m few =
      greatest-same (unflagged state.flags) (unchosen (sites_of state)) _ (total_with (λ s a. w s * site_value values n s a) n (sites_of state)) m
      (λ a l. ap (λ (t : Bool). ltb 0 a && not t) (h.flags.right a (omega arith))) (λ a l y. with-is a)

  -- the state's bounds as bounds of the sums of its bests, and back
  none_is : with_none w n (take n state.bests) ≡ total (λ s a. w s * site_value values n s a) n (sites_of state)
  none_is = total-is w (site_value values n) n state h

  module _ (bounds : List ℕ) where
    pub bounds-out : Bounded (total_with (λ s a. w s * site_value values n s a) n (sites_of state))
        (total (λ s a. w s * site_value values n s a) n (sites_of state)) bounds
        → Bounded (with_site w values n (take n state.bests)) (with_none w n (take n state.bests)) bounds
    bounds-out b = bounded-same b (λ a. sym (with-is a)) (sym none_is)

    pub bounds-back : Bounded (with_site w values n (take n state.bests)) (with_none w n (take n state.bests)) bounds
        → Bounded (total_with (λ s a. w s * site_value values n s a) n (sites_of state))
        (total (λ s a. w s * site_value values n s a) n (sites_of state)) bounds
    bounds-back b = bounded-same b with-is none_is
