-- Laws of the path back: the lowest place, and the turn, one street on the path at a time.
-- Assumes nothing.
use mathlib.Core.Path.{◌≡◌, refl, sym, ◌∙◌}
use mathlib.Core.Bool.{Bool}
use mathlib.Core.Logic.{◌≢◌}
use mathlib.Core.List.{List, [], ◌∷◌}
use Prim.Native.Nat.{ℕ, ◌+◌, ◌≤◌, ◌<◌}
use native.Mathlib.Omega.{arith}
use lib.ListN.{length, set, length-set}
use lib.Seq.{get_or-set_same, get_or-set_other}
use Rattle.counting.specs.Lists.{at}
use Rattle.division.proofs.Chain.{over-on, over-total}
use Rattle.queues.specs.Queue.{Differ, Later, Queue, Grown}
use Rattle.queues.specs.PathBack.{Turning, Turned}

-- the path back from a place of the queue
pub path-back : {v : ℕ → ℕ → ℕ} {d : ℕ → ℕ} {D : List ℕ} {s w k : ℕ} {sites streets nexts : List ℕ} {flags : List Bool} {i : ℕ} (q : ℕ) → q < k
    → Grown v d D s w k sites streets nexts flags i → Differ (q + 1) sites × Queue D s (q + 1) sites streets nexts
path-back q l g = (
  λ i j m n. g.placed.differ i j m (omega arith),
  record {
    start = g.queue.start;
    later = λ j m. g.queue.later j (omega arith);
    nearer = λ j m. g.queue.nearer j (omega arith);
  },
)

-- no street has moved
pub turning-start : (D : List ℕ) (s q : ℕ) (sites streets nexts : List ℕ) → Queue D s (q + 1) sites streets nexts
    → Turning D D s q sites streets nexts q
turning-start D s q sites streets nexts h =
    record {
      long = refl;
      upto = λ t l. refl;
      rest = λ j l m. (h.later j (omega arith) l).stands;
      over = λ z. refl;
      total = λ v d m. refl;
    }

module _ {D E : List ℕ} {s q : ℕ} {sites streets nexts : List ℕ} {p : ℕ} (queue : Queue D s (q + 1) sites streets nexts)
    (h : Turning D E s q sites streets nexts p) where
  -- the street of the place p goes on to the site of the next place
  pub turning-step : Differ (q + 1) sites → 0 < p → p ≤ q → Turning D (set E (at streets p) (at sites (at nexts p))) s q sites streets nexts (at nexts p)
  turning-step differ some le =
      record {
        long = length-set E t x ∙ h.long;
        upto = λ u l. get_or-set_other E t u x 0 (λ e. omega (arith, w.after)) ∙ h.upto u l;
        rest = λ j l m. get_or-set_other E t (at streets j) x 0 (other j l m) ∙ h.rest j l (omega (arith, near));
        over = over-on D E (at sites q) (at sites p) t x fits h.over stands;
        total = λ v d m. over-total D E (at sites q) (at sites p) t x fits v d stands (rw w.stands at (m p (omega arith) some)) (h.total v d m);
      }
    where
      t : ℕ
      t = at streets p

      x : ℕ
      x = at sites (at nexts p)

      w : Later D s t (at sites p)
      w = queue.later p (omega arith) some

      near : at nexts p < p
      near = queue.nearer p (omega arith) some

      fits : t < length E
      fits = omega (arith, h.long, w.street)

      stands : at E t ≡ at sites p
      stands = h.rest p some (omega arith)

      other : (j : ℕ) → 0 < j → j ≤ at nexts p → at streets j ≢ t
      other j l m e = differ j p (omega (arith, near)) (omega arith) (sym (h.rest j l (omega (arith, near))) ∙ rw e stands)

  -- the start is reached, and the street s goes to the site of the place q
  pub turning-done : p ≡ 0 → s < length D → Turned D (set E s (at sites q)) s q sites streets nexts
  turning-done e l =
      record {
        long = length-set E s a ∙ h.long;
        before = λ t m. get_or-set_other E s t a 0 (λ q. omega arith) ∙ h.upto t (omega arith);
        moved = get_or-set_same E s a 0 fits;
        counts = λ z. omega (arith, over-on D E a y s a fits (rw e at h.over) stands z);
        total = λ v d m t. omega (arith, over-total D E a y s a fits v d stands (rw (sym queue.start) at t) (rw e at (h.total v d m)));
      }
    where
      a : ℕ
      a = at sites q

      y : ℕ
      y = at sites 0

      fits : s < length E
      fits = omega (arith, h.long)

      stands : at E s ≡ y
      stands = h.upto s (omega arith) ∙ sym queue.start

-- a later street that stands at b changes sites with s: a queue of two places
pub swapped : {D : List ℕ} {s t b : ℕ} → s < length D → Later D s t b → b ≢ at D s
    → Turned D (set (set D t (at D s)) s b) s 1 (at D s ∷ b ∷ []) (0 ∷ t ∷ []) (0 ∷ 0 ∷ [])
swapped {D} {s} {t} {b} l later other =
    turning-done queue (turning-step queue (turning-start D s 1 sites streets nexts queue) differ (omega arith) (omega arith)) refl l
  where
    sites : List ℕ
    sites = at D s ∷ b ∷ []

    streets : List ℕ
    streets = 0 ∷ t ∷ []

    nexts : List ℕ
    nexts = 0 ∷ 0 ∷ []

    differ : Differ 2 sites
    differ i j m n e =
        let a : i ≡ 0 = omega arith in
        let c : j ≡ 1 = omega arith in
        other (sym (rw (a, c) at e))

    queue : Queue D s 2 sites streets nexts
    queue = record {
      start = refl;
      later = λ j m o. let e : j ≡ 1 = omega arith in rw e later;
      nearer = λ j m o. let e : j ≡ 1 = omega arith in rw e (omega arith);
    }
