-- Laws of the sites' limits: where they start, how they fall, and that they hold while streets move.
-- Assumes nothing.
use mathlib.Core.Path.{◌≡◌}
use mathlib.Core.Logic.{◌≢◌, by_cases}
use mathlib.Core.List.{List}
use Prim.Native.Nat.{ℕ, ◌+◌, ◌-◌, ◌≤◌, ◌<◌}
use native.Mathlib.Decide.{ℕ_discrete, dec_lt}
use native.Mathlib.Omega.{arith}
use lib.ListN.{length, set, length-set, replicate, length-replicate, get_or-replicate}
use lib.Seq.{get_or-set_same, get_or-set_other}
use Rattle.counting.specs.Lists.{at}
use Rattle.counting.proofs.Sums.{at-past}
use Rattle.queues.specs.Queue.{Later}
use Rattle.queues.specs.Limits.{Limits, Raised, LastAt}

-- the number of streets is a limit of every site
pub limits-start : {L : ℕ → Type 0} (s : ℕ) (D : List ℕ) (w : ℕ) → ((t : ℕ) → t < length D → at D t < w) → Limits L s D (replicate w (length D))
limits-start s D w sited =
    record {
      within = λ x. by_cases (dec_lt x w) (λ l. rw (get_or-replicate w x (length D) 0 l) (omega arith))
          (λ o. omega (arith, at-past (replicate w (length D)) x (rw length-replicate (omega arith))));
      limit = λ t l m p. rw (get_or-replicate w (at D t) (length D) 0 (sited t m)) m;
    }

module _ {L : ℕ → Type 0} {s : ℕ} {D limits : List ℕ} (h : Limits L s D limits) where
  -- they hold for fewer streets
  pub limits-next : Limits L (s + 1) D limits
  limits-next = record { within = h.within; limit = λ t l. h.limit t (omega arith) }

  -- and where fewer streets have the property
  pub limits-fewer : {L' : ℕ → Type 0} → ((t : ℕ) → t < length D → L' t → L t) → Limits L' s D limits
  limits-fewer back = record { within = h.within; limit = λ t l m p. h.limit t l m (back t m p) }

  -- a street goes to a site whose limit is raised above it
  pub limits-move : (raised : List ℕ) (t x : ℕ) → t < length D → Raised limits raised x (t + 1) → Limits L s (set D t x) raised
  limits-move raised t x l r =
      record {
        within = λ y. rw (length-set D t x) (r.from y (length D) (h.within y) (omega arith));
        limit = λ u m n p. by_cases (ℕ_discrete u t) (λ e. here u e) (λ e. there u e m (rw (length-set D t x) at n) p);
      }
    where
      here : (u : ℕ) → u ≡ t → u < at raised (at (set D t x) u)
      here u e = rw (e, get_or-set_same D t x 0 l) (omega (arith, r.own))

      there : (u : ℕ) → u ≢ t → s < u → u < length D → L u → u < at raised (at (set D t x) u)
      there u e m n p = rw (get_or-set_other D t u x 0 e) (omega (arith, h.limit u m n p, r.up (at D u)))

  -- the street s itself may go anywhere
  pub limits-own : (x : ℕ) → Limits L s (set D s x) limits
  limits-own x =
      record {
        within = λ y. rw (length-set D s x) (h.within y);
        limit = λ u m n p. rw (get_or-set_other D s u x 0 (λ e. omega arith)) (h.limit u m (rw (length-set D s x) at n) p);
      }

-- the limit of the site x falls to e, where no street from e on stands at x and has the property
pub record Falling (L : ℕ → Type 0) (s : ℕ) (D limits : List ℕ) (x e : ℕ) : Type 0 where
  pub low : e ≤ at limits x
  pub none : (t : ℕ) → e ≤ t → s < t → t < length D → at D t ≡ x → L t → ⊥

module _ {L : ℕ → Type 0} {s : ℕ} {D limits : List ℕ} {x : ℕ} where
  module _ {e : ℕ} (fits : x < length limits) (f : Falling L s D limits x e) where
    new : at (set limits x e) x ≡ e
    new = get_or-set_same limits x e 0 fits

    -- no limit has become greater
    pub fallen-low : (y : ℕ) → at (set limits x e) y ≤ at limits y
    fallen-low y = by_cases (ℕ_discrete y x) (λ q. rw (q, new) f.low) (λ q. rw (get_or-set_other limits x y e 0 q) (omega arith))

    -- and they hold
    pub fallen : Limits L s D limits → Limits L s D (set limits x e)
    fallen h =
        record {
          within = λ y. omega (arith, fallen-low y, h.within y);
          limit = λ t l m p. by_cases (ℕ_discrete (at D t) x) (λ q. own t l m p q) (λ q. rw (get_or-set_other limits x (at D t) e 0 q) (h.limit t l m p));
        }
      where
        own : (t : ℕ) → s < t → t < length D → L t → at D t ≡ x → t < at (set limits x e) (at D t)
        own t l m p q = rw (q, new) (by_cases (dec_lt t e) (λ o. o) (λ o. absurd (f.none t (omega arith) l m q p)))

-- the street that comes last before the limit of a site
pub last-street : (D : List ℕ) (s : ℕ) (limits : List ℕ) (x : ℕ) → LastAt D s limits x → (at limits x - 1 + 1 ≡ at limits x) × Later D s (at limits x - 1) x
last-street D s limits x (t, q, later) = let e : at limits x - 1 ≡ t = omega arith in (omega arith, rw e later)
