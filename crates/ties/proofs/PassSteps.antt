-- Laws of the pass over the streets: a street that stands on the lowest site that it may go to is settled, and so is one that a turn has put on
-- the lowest site of its queue; once all streets are settled the division is the best one.
-- Assumes nothing.
use mathlib.Core.Path.{◌≡◌, refl, sym, ap, ◌∙◌}
use mathlib.Core.Bool.{Bool, true, false, ◌||◌, true≢false}
use mathlib.Core.Logic.{◌≢◌, ◌⊎◌, inl, inr, ⊎_elim, by_cases}
use mathlib.Core.List.{List}
use Prim.Native.Nat.{ℕ, ◌+◌, ◌≤◌, ◌<◌}
use native.Mathlib.Numerals.{add-one, lt_of_le_of_ne}
use native.Mathlib.Decide.{ℕ_discrete}
use native.Mathlib.Omega.{arith}
use lib.Dec.{ltb, eqb}
use lib.ListN.{length, set}
use borrow.Author.Tests.{ltb-true, ltb-false, eqb-true, eq-eqb}
use Rattle.counting.specs.Lists.{at, cell}
use Rattle.counting.proofs.Refusals.{or_right, or-false}
use Rattle.counting.proofs.Membership.{or_cases}
use Rattle.division.specs.Prices.{Priced, Tight, Agree}
use Rattle.division.specs.Shares.{share, InShares, division_total}
use Rattle.division.specs.Divide.{divide}
use Rattle.division.specs.Problem.{tail, Problem}
use Rattle.division.proofs.Counts.{by_order}
use Rattle.division.proofs.Dual.{Cut, tight, priced-same}
use Rattle.division.proofs.Ties.{first-start, first_step, first-best}
use Rattle.division.proofs.ProblemShares.{share-tail, sited}
use Rattle.queues.specs.Queue.{PricedTable, flag, Later, Grown}
use Rattle.queues.specs.Limits.{Leaver, Limits, Raised}
use Rattle.queues.specs.PathBack.{Lowest, Turned}
use Rattle.queues.specs.Tights.{Rowed}
use Rattle.ties.specs.Standing.{Prices, Loose, Aim, Standing, Pass}
use Rattle.queues.proofs.QueueGrowth.{cut_of}
use Rattle.queues.proofs.TightRows.{row_back}
use Rattle.queues.proofs.PathBack.{swapped}
use Rattle.queues.proofs.LeaveLimits.{limits-next, limits-fewer, limits-move, limits-own}

-- a division in the shares of a problem has its sites below the width
pub priced-table-of : {values shares : List ℕ} (prices D : List ℕ) → Problem values shares (length D) → Prices prices (length shares) → InShares D (tail shares)
    → PricedTable values prices D (length shares)
priced-table-of {values} {shares} prices D problem low i =
    record {
      rows = problem.size;
      size = low.0;
      small = problem.small;
      low = low.1;
      sited = λ t l. (sited shares D problem.nobody i t l).0;
      few = problem.few;
      few-sites = problem.few-sites;
    }

-- before the first street nothing is settled
pub standing-start : (v : ℕ → ℕ → ℕ) (d : ℕ → ℕ) (c D : List ℕ) → InShares D c → Priced v d c D → Standing v d c D 0
standing-start v d c D i p = record { within = i; priced = p; first = first-start v c D }

-- after the last street the division is the best one
pub standing-best : {v : ℕ → ℕ → ℕ} {d : ℕ → ℕ} {c D : List ℕ} {s : ℕ} → Standing v d c D s → (n : ℕ) → length D ≡ n → s ≡ n → D ≡ divide v n c
standing-best {v} {d} {c} {D} {s} h n l e =
    let all : s ≡ length D = e ∙ sym l in
    first-best v d c D h.within h.priced (rw all at h.first) ∙ ap (λ (k : ℕ). divide v k c) l

-- the sites that can be left, and the own site of the street s
reached : List ℕ → List ℕ → ℕ → ℕ → Bool
reached limits D s x = ltb (s + 1) (at limits x) || eqb x (at D s)

reached-own : (limits D : List ℕ) (s : ℕ) → reached limits D s (at D s) ≡ true
unfolding reached
reached-own limits D s = or_right (ltb (s + 1) (at limits (at D s))) (eqb (at D s) (at D s)) (eq-eqb (at D s) (at D s) refl)

reached-some : (limits D : List ℕ) (s x : ℕ) → reached limits D s x ≡ true → (s + 1 < at limits x) ⊎ (x ≡ at D s)
unfolding reached
reached-some limits D s x e = ⊎_elim (λ t. inl (ltb-true _ _ t)) (λ t. inr (eqb-true _ _ t)) (or_cases (ltb (s + 1) (at limits x)) (eqb x (at D s)) e)

reached-none : (limits D : List ℕ) (s x : ℕ) → reached limits D s x ≡ false → at limits x ≤ s + 1
unfolding reached
reached-none limits D s x e = ltb-false _ _ (or-false (ltb (s + 1) (at limits x)) (eqb x (at D s)) e).0

module _ {values shares prices D tights ends limits : List ℕ} {s : ℕ} (pass : Pass values shares prices D tights ends limits s) where
  abbrev v : ℕ → ℕ → ℕ
  v = cell values (length shares)

  h : Standing v (at prices) (tail shares) D s
  h = pass.standing

  -- what the functions of the queue are lent
  pub priced-table : PricedTable values prices D (length shares)
  priced-table = priced-table-of prices D pass.problem pass.price h.within

  -- the sites where streets stand have shares, and so their rows
  pub rowed : Rowed v (at prices) D tights ends
  rowed t l = let (small, held) = sited shares D pass.problem.nobody h.within t l in pass.listed (at D t) small held

  -- the same with other limits
  pub pass-limited : (other : List ℕ) → length other ≡ length limits → Limits (Leaver v (at prices) shares D) s D other
      → Pass values shares prices D tights ends other s
  pass-limited other e k =
      record {
        problem = pass.problem;
        price = pass.price;
        standing = h;
        listed = pass.listed;
        fits = omega (arith, pass.fits);
        limited = k;
      }

  -- a move that leaves the shares and the total
  module _ (E : List ℕ) (long : length E ≡ length D) (same : InShares E (tail shares)) (total : division_total v E ≡ division_total v D) where
    -- what is tight after it was tight before
    tight-back : (t y : ℕ) → t < length D → Tight v (at prices) E t y → Tight v (at prices) D t y
    tight-back t y m e = omega (arith, tight v (at prices) (tail shares) D h.within h.priced E same total t m)

    -- a street that may leave its site could leave the one before
    leaver-back : (t : ℕ) → t < length D → Leaver v (at prices) shares E t → Leaver v (at prices) shares D t
    leaver-back t l (y, some, away, e) =
        let held = (sited shares E pass.problem.nobody same t (rw long l)).1 in
        by_cases (ℕ_discrete y (at D t))
        (λ q. (at E t, held, λ z. away (q ∙ sym z), tight v (at prices) (tail shares) D h.within h.priced E same total t l))
        (λ q. (y, some, q, tight-back t y l e))

    -- so where it puts the street s on the lowest site within a cut the pass comes to the next street: the rows and the limits hold still
    pass_step : (R : ℕ → Bool) → Cut v (at prices) (tail shares) D s R → Agree D E s
        → ((b : ℕ) → R b ≡ true → 0 < share (tail shares) b → Tight v (at prices) D s b → at E s ≤ b) → s < length D → (other : List ℕ)
        → length other ≡ length limits → Limits (Leaver v (at prices) shares D) s E other → Pass values shares prices E tights ends other (s + 1)
    pass_step R cut before low l other e k =
        record {
          problem = rw long pass.problem;
          price = pass.price;
          standing = record {
            within = same;
            priced = priced-same v (at prices) (tail shares) D h.within h.priced E same total;
            first = rw (add-one s) (first_step v (at prices) (tail shares) D h.within h.priced s l R cut E
                (record { total = total; before = before; low = low }) h.first);
          };
          listed = λ y small held. row_back tights ends y long (λ t. tight-back t y) (pass.listed y small held);
          fits = omega (arith, pass.fits);
          limited = limits-next (limits-fewer k (λ t m. leaver-back t (rw long at m)));
        }

  module _ (l : s < length D) where
    -- the street s goes to the lowest site of its queue
    pub pass-turned : {w k : ℕ} {sites streets nexts : List ℕ} {flags : List Bool} {p : ℕ} {E : List ℕ}
        → Grown v (at prices) D s w k sites streets nexts flags k → Lowest v (at prices) D s k sites p → Turned D E s p sites streets nexts
        → (other : List ℕ) → length other ≡ length limits → Limits (Leaver v (at prices) shares D) s E other
        → Pass values shares prices E tights ends other (s + 1)
    pass-turned {flags = flags} {E = E} g lowest turned =
        let total = turned.total v (at prices) (λ j m. g.linked j (omega (arith, lowest.within))) lowest.tight in
        pass_step E turned.long (λ z. turned.counts z ∙ h.within z) total (flag flags) (cut_of (tail shares) h.priced g) turned.before
        (λ b y held t. let (j, m, e) = g.placed.only b y in omega (arith, turned.moved, lowest.low j m (rw e t), e)) l

    -- it goes to a site below which it may go to none that can be left
    module _ {b : ℕ} (within : b ≤ at D s) (loose : Loose v (at prices) shares limits D s b) where
      kept : (t : ℕ) → s < t → t < length D → reached limits D s (at D t) ≡ false → (a : ℕ) → 0 < share (tail shares) a
          → reached limits D s a ≡ true → Tight v (at prices) D t a → ⊥
      kept t m n out a held inside e =
          let away : a ≢ at D t = λ q. true≢false (sym inside ∙ rw q out) in
          let leaver : Leaver v (at prices) shares D t = (a, omega (arith, share-tail shares pass.problem.nobody a), away, e) in
          omega (arith, pass.limited.limit t m n leaver, reached-none limits D s (at D t) out)

      cut : Cut v (at prices) (tail shares) D s (reached limits D s)
      cut = record {
        own-site = reached-own limits D s;
        losing = λ t m n out a held inside. lt_of_le_of_ne (h.priced t n a held) (kept t m n out a held inside);
      }

      below : (a : ℕ) → reached limits D s a ≡ true → 0 < share (tail shares) a → Tight v (at prices) D s a → a < b → ⊥
      below a inside held t m =
          ⊎_elim (λ o. omega (arith, loose a m (omega (arith, share-tail shares pass.problem.nobody a)) t)) (λ q. omega (arith, within))
          (reached-some limits D s a inside)

      pass-aimed : (E : List ℕ) → length E ≡ length D → InShares E (tail shares) → division_total v E ≡ division_total v D → Agree D E s → at E s ≡ b
          → (other : List ℕ) → length other ≡ length limits → Limits (Leaver v (at prices) shares D) s E other
          → Pass values shares prices E tights ends other (s + 1)
      pass-aimed E long same total before moved =
          pass_step E long same total (reached limits D s) cut before
          (λ a inside held t. by_order a b (λ m. absurd (below a inside held t m)) (λ e. omega arith) (λ m. omega arith)) l

    -- it stays where it is, where there is none below its own
    pub pass-still : Loose v (at prices) shares limits D s (at D s) → Pass values shares prices D tights ends limits (s + 1)
    pass-still loose = pass-aimed (omega arith) loose D refl h.within refl (λ t m. refl) refl limits refl pass.limited

    -- it changes sites with a later street that stands at the lowest of them
    pub pass-swapped : {b t : ℕ} → Aim v (at prices) shares limits D s b → Later D s t b → Tight v (at prices) D t (at D s) → (other : List ℕ)
        → length other ≡ length limits → Raised limits other (at D s) (t + 1) → Pass values shares prices (set (set D t (at D s)) s b) tights ends other (s + 1)
    pass-swapped {b} {t} aim later back other e r =
        let turned = swapped l later (λ q. omega (arith, aim.within)) in
        let total = turned.total v (at prices) (λ j m o. let q : j ≡ 1 = omega arith in rw q back) aim.tight in
        pass-aimed (omega (arith, aim.within)) aim.loose (set (set D t (at D s)) s b) turned.long (λ z. turned.counts z ∙ h.within z) total
        turned.before turned.moved other e (limits-own (limits-move pass.limited other t (at D s) later.street r) b)
