-- Laws of the queue: it starts with one place, one site more joins, and a queue that has been looked at whole is a cut.
-- Assumes nothing.
use mathlib.Core.Path.{◌≡◌, refl, sym, ap, ◌∙◌}
use mathlib.Core.Bool.{Bool, true, false, true≢false}
use mathlib.Core.Logic.{◌≢◌, by_cases}
use mathlib.Core.List.{List}
use Prim.Native.Nat.{ℕ, zero, suc, ◌+◌, ◌≤◌, ◌<◌}
use native.Mathlib.Nat.{le_of_suc-le-suc}
use native.Mathlib.Numerals.{lt_of_le_of_ne}
use native.Mathlib.Decide.{ℕ_discrete, dec_lt}
use native.Mathlib.Omega.{arith}
use lib.ListN.{length, set, replicate, length-replicate, get_or-replicate, get_or-eq_default}
use lib.Seq.{get_or-set_same, get_or-set_other}
use borrow.Author.Count.{below_more}
use Rattle.counting.specs.Lists.{at}
use Rattle.counting.proofs.Tables.{pigeon}
use Rattle.division.specs.Prices.{Priced, Tight}
use Rattle.division.proofs.Dual.{Cut}
use Rattle.queues.specs.Queue.{flag, Placed, Later, Queue, Shut, Grown, Growing}

-- ---- stores
-- a list after a store behind its first k numbers
pub record Grows (xs ys : List ℕ) (k x : ℕ) : Type 0 where
  pub same : (j : ℕ) → j < k → at ys j ≡ at xs j
  pub new : at ys k ≡ x

-- a store at the index k is one
pub grows : (xs : List ℕ) (k x : ℕ) → k < length xs → Grows xs (set xs k x) k x
grows xs k x l = record { same = λ j m. get_or-set_other xs k j x 0 (λ q. omega arith); new = get_or-set_same xs k x 0 l }

-- flags after one more is set
record Flagged (flags more : List Bool) (x : ℕ) : Type 0 where
  pub set-now : flag more x ≡ true
  pub other : (y : ℕ) → y ≢ x → flag more y ≡ flag flags y

-- a store of true sets one flag
flagged : (flags : List Bool) (x : ℕ) → x < length flags → Flagged flags (set flags x true) x
flagged flags x l = record { set-now = get_or-set_same flags x true false l; other = λ y n. get_or-set_other flags x y true false n }

-- a site without a flag had none before
flag-less : {flags more : List Bool} {x : ℕ} → Flagged flags more x → (y : ℕ) → flag more y ≡ false → flag flags y ≡ false
flag-less {flags} {more} {x} f y e =
    by_cases (ℕ_discrete y x) (λ q. absurd (true≢false (sym f.set-now ∙ rw q at e))) (λ n. sym (f.other y n) ∙ e)

-- ---- places
-- a number in front of others
abbrev ahead : ℕ → (ℕ → ℕ) → ℕ → ℕ
ahead x f zero = x
ahead x f (suc j) = f j

-- there are at most as many places as sites
pub placed-fits : {w k : ℕ} {sites : List ℕ} {flags : List Bool} → Placed w k sites flags → k ≤ w
placed-fits {w} {k} {sites} p = pigeon w k (at sites) p.differ p.within

module _ {w k : ℕ} {sites : List ℕ} {flags : List Bool} (p : Placed w k sites flags) (x : ℕ) (small : x < w) (new : flag flags x ≡ false) where
  -- a site without a flag has no place
  apart : (j : ℕ) → j < k → at sites j ≢ x
  apart j l e = true≢false (sym (p.each j l) ∙ rw (sym e) at new)

  -- so there is room for it
  pub placed-room : k < w
  placed-room = pigeon w (suc k) (ahead x (at sites)) differ within
    where
      differ : (i j : ℕ) → i < j → j < suc k → ahead x (at sites) i ≢ ahead x (at sites) j
      differ i zero l m e = omega arith
      differ zero (suc j) l m e = apart j (le_of_suc-le-suc m) (sym e)
      differ (suc i) (suc j) l m e = p.differ i j (le_of_suc-le-suc l) (le_of_suc-le-suc m) e

      within : (i : ℕ) → i < suc k → ahead x (at sites) i < w
      within zero l = small
      within (suc i) l = p.within i (le_of_suc-le-suc l)

  -- it joins
  placed-more : x < length flags → (now : List ℕ) → Grows sites now k x → Placed w (k + 1) now (set flags x true)
  placed-more wide now g =
      record {
        within = below_more (λ j. at now j < w) k (λ j l. rw (g.same j l) (p.within j l)) (rw g.new small);
        differ = λ i j l m. below_more (λ j. (i : ℕ) → i < j → at now i ≢ at now j) k old last j m i l;
        each = below_more (λ j. flag (set flags x true) (at now j) ≡ true) k kept (rw g.new f.set-now);
        only = only;
      }
    where
      f : Flagged flags (set flags x true) x
      f = flagged flags x wide

      old : (j : ℕ) → j < k → (i : ℕ) → i < j → at now i ≢ at now j
      old j m i l = rw (g.same i (omega arith), g.same j m) (p.differ i j l m)

      last : (i : ℕ) → i < k → at now i ≢ at now k
      last i l = rw (g.same i l, g.new) (apart i l)

      kept : (j : ℕ) → j < k → flag (set flags x true) (at now j) ≡ true
      kept j l = rw (g.same j l) (f.other (at sites j) (apart j l) ∙ p.each j l)

      only : (y : ℕ) → flag (set flags x true) y ≡ true → (j : ℕ) × (j < k + 1) × (at now j ≡ y)
      only y e =
          by_cases (ℕ_discrete y x) (λ q. (k, omega arith, g.new ∙ sym q))
          (λ n. let (j, l, h) = p.only y (sym (f.other y n) ∙ e) in (j, omega arith, g.same j l ∙ h))

-- a first site, where no flag is set
pub placed-start : (w a n : ℕ) (sites : List ℕ) (flags : List Bool) → a < w → 0 < length sites → a < length flags → flags ≡ replicate n false
    → Placed w 1 (set sites 0 a) (set flags a true)
placed-start w a n sites flags small some wide clear =
    placed-more none a small (unset a) wide (set sites 0 a) (grows sites 0 a some)
  where
    size : length flags ≡ n
    size = ap length clear ∙ length-replicate n false

    unset : (x : ℕ) → flag flags x ≡ false
    unset x =
        by_cases (dec_lt x n) (λ l. rw clear (get_or-replicate n x false false l)) (λ o. get_or-eq_default flags false (omega (arith, size)))

    none : Placed w 0 sites flags
    none = record {
      within = λ j l. absurd (omega arith);
      differ = λ i j l m. absurd (omega arith);
      each = λ j l. absurd (omega arith);
      only = λ x e. absurd (true≢false (sym e ∙ unset x));
    }

module _ {v : ℕ → ℕ → ℕ} {d : ℕ → ℕ} {D : List ℕ} {s w : ℕ} where
  -- the queue has one place, the start
  pub grown-start : (sites streets nexts : List ℕ) (flags : List Bool) → at sites 0 ≡ at D s → Placed w 1 sites flags
      → Grown v d D s w 1 sites streets nexts flags 0
  grown-start sites streets nexts flags e p =
      record {
        some = omega arith;
        placed = p;
        queue = record { start = e; later = λ j l m. absurd (omega arith); nearer = λ j l m. absurd (omega arith) };
        linked = λ j l m. absurd (omega arith);
        done = λ j l. absurd (omega arith);
      }

  module _ {k : ℕ} {sites streets nexts : List ℕ} {flags : List Bool} {i : ℕ} where
    -- from u on no street is tight for the site of the place
    pub growing-start : {u : ℕ} → Grown v d D s w k sites streets nexts flags i → i < k
        → ((t : ℕ) → u ≤ t → t < length D → Tight v d D t (at sites i) → ⊥) → Growing v d D s w k sites streets nexts flags i u
    growing-start g l none = record { grown = g; place = l; here = λ t m n a f. none t m n }

    -- nor is one of those before it
    pub growing-skip : {u : ℕ} (e : ℕ) → Growing v d D s w k sites streets nexts flags i u
        → ((t : ℕ) → e ≤ t → t < u → Tight v d D t (at sites i) → ⊥) → Growing v d D s w k sites streets nexts flags i e
    growing-skip {u} e h none =
        record {
          grown = h.grown;
          place = h.place;
          here = λ t m l a f. by_cases (dec_lt t u) (none t m) (λ n. h.here t (omega arith) l a f);
        }

    -- a place that has been looked at with all streets is done
    pub growing-done : {u : ℕ} → Growing v d D s w k sites streets nexts flags i u → u ≤ s + 1 → Grown v d D s w k sites streets nexts flags (i + 1)
    growing-done h l =
        let g = h.grown in
        record {
          some = g.some;
          placed = g.placed;
          queue = g.queue;
          linked = g.linked;
          done = below_more (λ j. Shut v d D s flags (at sites j) 0) i g.done (λ t m n a. h.here t (omega arith) n a);
        }

    module _ {u : ℕ} (h : Growing v d D s w k sites streets nexts flags i (u + 1)) (after : s < u) (street : u < length D) (small : at D u < w)
        (wide : at D u < length flags) (new : flag flags (at D u) ≡ false) (tight : Tight v d D u (at sites i)) (sites' streets' nexts' : List ℕ)
        (gs : Grows sites sites' k (at D u)) (gt : Grows streets streets' k u) (gn : Grows nexts nexts' k i) where
      -- the queue as it was
      g : Grown v d D s w k sites streets nexts flags i
      g = h.grown

      -- its places
      q : Queue D s k sites streets nexts
      q = g.queue

      -- the flag of the site that joins
      f : Flagged flags (set flags (at D u) true) (at D u)
      f = flagged flags (at D u) wide

      -- what was shut stays shut
      shut : (y e : ℕ) → Shut v d D s flags y e → Shut v d D s (set flags (at D u) true) y e
      shut y e c t l m a n = c t l m a (flag-less f (at D t) n)

      -- the streets of the old places stand there still
      later : (j : ℕ) → j < k → 0 < j → Later D s (at streets' j) (at sites' j)
      later j l m = rw (gt.same j l, gs.same j l) (q.later j l m)

      -- their next places are still nearer the start
      nearer : (j : ℕ) → j < k → 0 < j → at nexts' j < j
      nearer j l m = rw (gn.same j l) (q.nearer j l m)

      -- they are still tight for the sites of those
      linked : (j : ℕ) → j < k → 0 < j → Tight v d D (at streets' j) (at sites' (at nexts' j))
      linked j l m = rw (gt.same j l, gn.same j l, gs.same (at nexts j) (omega (arith, q.nearer j l m))) (g.linked j l m)

      -- and the site that joins has a flag
      here : Shut v d D s (set flags (at D u) true) (at sites' i) (u + 1) → Shut v d D s (set flags (at D u) true) (at sites' i) u
      here c t m l a o y = by_cases (ℕ_discrete t u) (λ q. true≢false (sym f.set-now ∙ rw q at o)) (λ n. c t (omega arith) l a o y)

      -- the site of a street that is tight joins
      pub growing-more : Growing v d D s w (k + 1) sites' streets' nexts' (set flags (at D u) true) i u
      growing-more =
          record {
            grown = record {
              some = omega arith;
              placed = placed-more g.placed (at D u) small new wide sites' gs;
              queue = record {
                start = gs.same 0 g.some ∙ q.start;
                later = below_more (λ j. 0 < j → Later D s (at streets' j) (at sites' j)) k later
                    (λ m. rw (gt.new, gs.new) (record { after = after; street = street; stands = refl }));
                nearer = below_more (λ j. 0 < j → at nexts' j < j) k nearer (λ m. rw gn.new h.place);
              };
              linked = below_more (λ j. 0 < j → Tight v d D (at streets' j) (at sites' (at nexts' j))) k linked
                  (λ m. rw (gt.new, gn.new, gs.same i h.place) tight);
              done = λ j l. rw (gs.same j (omega (arith, h.place))) (shut (at sites j) 0 (g.done j l));
            };
            place = omega (arith, h.place);
            here = here (rw (gs.same i h.place) (shut (at sites i) (u + 1) h.here));
          }

  -- a queue of which every place has been looked at is a cut
  pub cut_of : {k : ℕ} {sites streets nexts : List ℕ} {flags : List Bool} (c : List ℕ) → Priced v d c D
      → Grown v d D s w k sites streets nexts flags k → Cut v d c D s (flag flags)
  cut_of c p g =
      record {
        own-site = rw g.queue.start at (g.placed.each 0 g.some);
        losing = λ t a l o b h y. let (j, m, e) = g.placed.only b y in lt_of_le_of_ne (p t l b h) (rw e at (g.done j m t (omega arith) l a o));
      }
