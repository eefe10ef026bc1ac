-- Laws of a round: the lines are the definition's orders, the site of greatest worth is the definition's choice, and the state with one
-- site more is the definition's state.
-- Assumes nothing.
use mathlib.Core.Path.{◌≡◌, refl, sym, ap, subst, ◌∙◌}
use mathlib.Core.Bool.{Bool, true, false, not, ◌&&◌, and-eq-true_iff}
use mathlib.Core.Logic.{by_cases}
use mathlib.Core.List.{List, [], ◌∷◌, ◌++◌}
use Prim.Native.Nat.{ℕ, zero, suc, ◌+◌, ◌*◌, ◌≤◌, ◌<◌}
use native.Mathlib.Decide.{dec_lt}
use native.Mathlib.Numerals.{add-one}
use native.Mathlib.Omega.{arith}
use lib.Dec.{ltb}
use lib.ListN.{length, get_or, take, drop, set, replicate, length-set, length-take, length-append, length-drop, length-replicate}
use lib.Seq.{take-suc-set, get_or-take, get_or-drop, length-take-le}
use borrow.Author.Tests.{not-true}
use Rattle.counting.specs.Bounds.{most_streets, most_sites, most_value, most_worth}
use Rattle.counting.specs.Words.{◌unless◌}
use Rattle.counting.specs.Lists.{at, sum, only}
use Rattle.counting.specs.Greatest.{greatest, unchosen}
use Rattle.counting.proofs.Greatest.{greatest-same}
use Rattle.counting.proofs.Flagging.{flags-none, flags-more}
use Rattle.counting.proofs.Refusals.{unless-yes, unless-none}
use Rattle.counting.proofs.Sums.{at-past}
use Rattle.counting.proofs.Tables.{row_within}
use Rattle.counting.proofs.Parts.{back_is}
use Rattle.counting.proofs.Equations.{along}
use Rattle.tables.specs.Tables.{value_in}
use Rattle.survey.specs.Rows.{row_at}
use Rattle.choices.specs.Scan.{unflagged}
use Rattle.balanced_plan.specs.Rounds.{free, lot, worth, give, choice, taken, rounds}
use Rattle.balanced_plan.specs.Rounds as plan
use Rattle.balanced_plan.proofs.Ordered.{ordered-only}
use Rattle.balanced_rounds.specs.declared.State.{State}
use Rattle.balanced_rounds.specs.declared.table.Table.{Table}
use Rattle.balanced_rounds.specs.Worth.{line_worth}
use Rattle.balanced_rounds.specs.Lines.{picked, Orders, Line, Lines, state_of, empty_state, WellFormed}

-- ---- lines
module _ {n m : ℕ} {orders : List ℕ} (h : Lines n m orders) {a : ℕ} (l : a ≤ m) where
  -- a site's line lies in the table
  line-ends : a * n + n ≤ length orders
  line-ends = omega (arith, row_within (m + 1) n a (omega arith), h.size)

  -- it is a line of the streets
  pub line_of : {division : List ℕ} → length division ≡ n → n ≤ most_streets → Line (row_at n orders a) division
  line_of e few = record {
    streets = λ i k.
        let long : length (row_at n orders a) ≤ n = omega (arith, length-take n (drop (a * n) orders)) in
        let there : at (row_at n orders a) i ≡ at orders (a * n + i) =
        get_or-take n (drop (a * n) orders) i 0 (omega arith) ∙ get_or-drop (a * n) orders i 0 in
        omega (arith, there, h.streets (a * n + i) (omega (arith, line-ends)));
    few = omega arith;
  }

-- what is picked from a site's line is the lot that the definition gives it
lot-line : (key : ℕ → ℕ → ℕ) (n m : ℕ) (orders : List ℕ) → Orders key n m orders → (q : ℕ) (division : List ℕ) (a : ℕ) → length division ≡ n
    → a ≤ m → lot key q division a ≡ picked (row_at n orders a) q division
lot-line key n m orders o q division a e l = rw (e, ordered-only (key a) (free division) n, o a l) refl

-- ---- worths
module _ (f : ℕ → ℕ) (line division : List ℕ) (q : ℕ) where
  -- a sum of values is at most most_value for each
  sum-small : (L : List ℕ) → ((s : ℕ) → f s ≤ most_value) → sum f L ≤ length L * most_value
  sum-small [] h = omega arith
  sum-small (s ∷ L) h = omega (arith, h s, sum-small L h)

  -- the worth of a share of at most 400 streets is small
  worth-small : ((s : ℕ) → f s ≤ most_value) → q ≤ most_streets → sum f (picked line q division) ≤ most_worth
  worth-small h few = omega (arith, sum-small (picked line q division) h, length-take q (only (free division) line))

-- what is taken only where a test fails is no more than it is
unless-small : (x bound : ℕ) (t : Bool) → x ≤ bound → (x unless t) ≤ bound
unless-small x bound true l = omega (arith, unless-none x true refl)
unless-small x bound false l = omega (arith, unless-yes x false refl)

-- the worths of all sites, each by its line
pub record Worths (t : Table) (division : List ℕ) (flags : List Bool) (q : ℕ) (worths : List ℕ) : Type 0 where
  pub size : length worths ≡ t.m + 1
  pub each : (a : ℕ) → a ≤ t.m → at worths a ≡ line_worth t division flags q a

-- they are small
pub worths-small : (t : Table) {division : List ℕ} {flags : List Bool} {q : ℕ} {worths : List ℕ} → Worths t division flags q worths
    → ((i : ℕ) → at t.values.now i ≤ most_value) → q ≤ most_streets → (a : ℕ) → at worths a ≤ most_worth
worths-small t {division} {flags} {q} {worths} h low few a =
    by_cases (dec_lt a (t.m + 1)) (λ l. omega (arith, h.each a (omega arith), small)) (λ o. omega (arith, at-past worths a (omega (arith, h.size))))
  where
    small : line_worth t division flags q a ≤ most_worth
    small =
        unless-small _ most_worth (get_or flags a false)
        (worth-small (λ s. value_in t.values.now t.m s a) (row_at t.n t.orders.now a) division q (λ s. low (s * (t.m + 1) + a)) few)

-- the flags' choice by the worths of all lines is the choice by the definition's worths
pub chosen-worth : (t : Table) {division : List ℕ} {flags : List Bool} {q : ℕ} {worths : List ℕ} → Worths t division flags q worths
    → length division ≡ t.n → (key : ℕ → ℕ → ℕ) → Orders key t.n t.m t.orders.now
    → greatest (unflagged flags) (at worths) t.m ≡ greatest (unflagged flags) (worth (value_in t.values.now t.m) key q division) t.m
chosen-worth t {division} {flags} {q} {worths} h whole key o =
    greatest-same (unflagged flags) (unflagged flags) (at worths) (worth (value_in t.values.now t.m) key q division) t.m (λ a l. refl)
    (λ a l y.
    let open-site : get_or flags a false ≡ false = not-true (get_or flags a false) ((and-eq-true_iff (ltb 0 a) (not (get_or flags a false))).0 y).1 in
    h.each a l
    ∙ sym (unless-yes (sum (λ s. value_in t.values.now t.m s a) (picked (row_at t.n t.orders.now a) q division)) (get_or flags a false) open-site)
    ∙ ap (sum (λ s. value_in t.values.now t.m s a)) (sym (lot-line key t.n t.m t.orders.now o q division a whole l)))

-- and the choice by the flags is that by the chosen sites
pub choice-flagged : (v key : ℕ → ℕ → ℕ) (n m q : ℕ) {state : State} → WellFormed state → m ≤ most_sites
    → greatest (unflagged state.flags) (worth v key q (take n state.division)) m ≡ choice v key m q (state_of n state)
choice-flagged v key n m q {state} h few =
    greatest-same (unflagged state.flags) (unchosen (take state.count state.chosen)) _ _ m
    (λ a l. ap (λ (t : Bool). ltb 0 a && not t) (h.flags.right a (omega arith))) (λ a l y. refl)

-- ---- the state
-- the engine's state once a site has taken its streets
abbrev pub state_with : State → ℕ → List ℕ → State
state_with state site division =
    record {
      chosen = set state.chosen state.count site;
      count = state.count + 1;
      flags = set state.flags site true;
      division = division;
    }

-- a round's site, and the division once it has been given its streets
pub record Given (n m : ℕ) (state : State) (site : ℕ) (new : List ℕ) : Type 0 where
  pub well : WellFormed state
  pub room : state.count < most_sites
  pub low : site ≤ m
  pub few-sites : m ≤ most_sites
  pub few-streets : n ≤ most_streets
  pub size : length new ≡ length (take n state.division)

module _ {n m : ℕ} {state : State} {site : ℕ} {new : List ℕ} (h : Given n m state site new) where
  -- the sites with one more
  sites-more : take (state.count + 1) (set state.chosen state.count site) ≡ take state.count state.chosen ++ (site ∷ [])
  sites-more = rw add-one (take-suc-set state.chosen state.count site (omega (arith, h.room, h.well.chosen-size)))

  whole : length (take n state.division) ≡ n
  whole = length-take-le n state.division (omega (arith, h.few-streets, h.well.division-size))

  -- it holds what it should
  pub held_more : WellFormed (state_with state site (new ++ drop n state.division))
  held_more = record {
    chosen-size = simp length-set h.well.chosen-size;
    division-size =
        omega
        (arith, length-append new (drop n state.division), length-drop n state.division, h.well.division-size, h.few-streets, h.size, whole);
    flags =
        rw sites-more
        (flags-more state.flags (take state.count state.chosen) site (omega (arith, h.low, h.few-sites)) h.well.flags);
  }

  -- and stands for the definition's state
  pub taken_more : (q : ℕ) (key : ℕ → ℕ → ℕ) (orders : List ℕ) → Orders key n m orders
      → new ≡ give site (picked (row_at n orders site) q (take n state.division)) (take n state.division)
      → state_of n (state_with state site (new ++ drop n state.division)) ≡ taken key q (state_of n state) site
  taken_more q key orders o e =
      let line : lot key q (take n state.division) site ≡ picked (row_at n orders site) q (take n state.division) =
      lot-line key n m orders o q (take n state.division) site whole h.low in
      let given : new ≡ give site (lot key q (take n state.division) site) (take n state.division) = rw line e in
      rw (sites-more, back_is n new (drop n state.division) (h.size ∙ whole), given) refl

-- the empty state holds nothing
held_none : WellFormed empty_state
held_none = record { chosen-size = length-replicate {A = ℕ} most_sites 0; division-size = length-replicate {A = ℕ} most_streets 0; flags = flags-none }

-- before the first round every street is free
take-blank : (n size : ℕ) → n ≤ size → take n (replicate {A = ℕ} size 0) ≡ replicate n 0
take-blank zero size l = refl
take-blank (suc n) zero l = absurd (omega arith)
take-blank (suc n) (suc size) l = ap (λ (L : List ℕ). 0 ∷ L) (take-blank n size (omega arith))

rounds-none : (v key : ℕ → ℕ → ℕ) (n m : ℕ) (q : ℕ → ℕ) → n ≤ most_streets → state_of n empty_state ≡ rounds v key n m q 0
unfolding rounds
rounds-none v key n m q few = rw (take-blank n most_streets few) refl

-- one round more
rounds-more : (v key : ℕ → ℕ → ℕ) (n m : ℕ) (q : ℕ → ℕ) (i : ℕ) (old new : State) → state_of n old ≡ rounds v key n m q i
    → state_of n new ≡ taken key (q i) (state_of n old) (choice v key m (q i) (state_of n old)) → state_of n new ≡ rounds v key n m q (i + 1)
unfolding rounds
rounds-more v key n m q i old new before step =
    rw add-one (subst (λ (state : plan.State). state_of n new ≡ taken key (q i) state (choice v key m (q i) state)) before step)

-- a state after i rounds, by any key that the lines are the orders by
pub record Played (values orders : List ℕ) (n m : ℕ) (q : ℕ → ℕ) (i : ℕ) (state : State) : Type 0 where
  pub well : WellFormed state
  pub count : state.count ≡ i
  pub plays : (key : ℕ → ℕ → ℕ) → Orders key n m orders → state_of n state ≡ rounds (value_in values m) key n m q i

pub played-none : {values orders : List ℕ} {n m : ℕ} {q : ℕ → ℕ} {state : State} → n ≤ most_streets → state ≡ empty_state
    → Played values orders n m q 0 state
played-none {values} {orders} {n} {m} {q} few e =
    along (λ (S : State). Played values orders n m q 0 S) e
    (record { well = held_none; count = refl; plays = λ key o. rounds-none (value_in values m) key n m q few })

pub played-more : {values orders : List ℕ} {n m : ℕ} {q : ℕ → ℕ} {i : ℕ} {old new : State} → Played values orders n m q i old
    → WellFormed new × (new.count ≡ old.count + 1)
    → ((key : ℕ → ℕ → ℕ) → Orders key n m orders
    → state_of n new ≡ taken key (q i) (state_of n old) (choice (value_in values m) key m (q i) (state_of n old)))
    → Played values orders n m q (i + 1) new
played-more {values} {orders} {n} {m} {q} {i} {old} {new} h (well, more) step = record {
  well = well;
  count = omega (arith, h.count);
  plays = λ key o. rounds-more (value_in values m) key n m q i old new (h.plays key o) (step key o);
}
