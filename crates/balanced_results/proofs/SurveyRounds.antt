-- Laws between the rows and the balanced plan: keys, lines and orders from the survey, and the rounds' division in the shares of their sites.
-- Assumes nothing.
use mathlib.Core.Path.{◌≡◌, sym, ap, ◌∙◌}
use mathlib.Core.Bool.{true}
use mathlib.Core.List.{List}
use mathlib.Core.Logic.{by_cases}
use Prim.Native.Nat.{ℕ, ◌+◌, ◌-◌, ◌*◌, ◌/◌, ◌%◌, ◌≤◌, ◌<◌}
use native.Mathlib.Nat.{div-add-mod', mod-lt, div-lt_iff_lt-mul, mul-zero}
use native.Mathlib.Decide.{dec_lt}
use native.Mathlib.Omega.{arith}
use lib.ListN.{length, drop, length-drop}
use lib.Seq.{get_or-take, get_or-drop, length-take-le}
use Rattle.counting.specs.Bounds.{most_value}
use Rattle.counting.specs.Lists.{at, cell}
use Rattle.counting.specs.Sites.{Choice}
use Rattle.counting.proofs.Sums.{has-at}
use Rattle.counting.proofs.Equations.{along}
use Rattle.counting.proofs.Tables.{row_within}
use Rattle.survey.specs.Town.{Town}
use Rattle.survey.specs.Rows.{row_at, Even, value}
use Rattle.survey.specs.Accepted.{Accepted}
use Rattle.survey.proofs.Lists.{place-few}
use Rattle.tables.specs.Tables.{Tabled, value_in}
use Rattle.tables.specs.RoundKeys.{row_place, row_key, round_key}
use Rattle.tables.proofs.Tabled.{street-ready, street-same}
use Rattle.shares.specs.Rounds.{round_share}
use Rattle.shares.proofs.Sums.{shares-all}
use Rattle.division.specs.Shares.{InShares, shares_of}
use Rattle.division.specs.Problem.{tail}
use Rattle.balanced_plan.specs.Falling.{FallsBy, CompareAlike}
use Rattle.balanced_plan.specs.Rounds.{ordered, rounds}
use Rattle.balanced_plan.specs.Rounds as plan
use Rattle.balanced_plan.proofs.Ordered.{ordered-street}
use Rattle.balanced_plan.proofs.RoundShares.{rounds-plan, rounds-in}
use Rattle.balanced_plan.proofs.Agree.{rounds-agree}
use Rattle.balanced_plan.proofs.CountedKeys.{counted-falling}
use Rattle.plans.specs.Plans.{street_key, balanced_rounds, balanced_sites}
use Rattle.balanced_rounds.specs.Lines.{Orders, Lines, Falling}
use Rattle.balanced_rounds.proofs.AlikeLines.{orders-alike}
use Rattle.starts.specs.Given.{Shared}
use Rattle.balanced_results.specs.declared.first.Chooser.{Chooser}
use Rattle.balanced_results.specs.declared.first.Chooser.TheVariants as chooser
use Rattle.balanced_results.specs.Shareable.{Shareable}
use Rattle.balanced_results.specs.Begun.{Begun, Listed, sites_of}
use Rattle.balanced_results.proofs.FallingLines.{table-falls, lines-fall}

-- ---- lines
-- what stands in a row of a table by sites
row-cell : (n : ℕ) (list : List ℕ) (a s : ℕ) → s < n → at (row_at n list a) s ≡ cell list n a s
row-cell n list a s l = get_or-take n (drop (a * n) list) s 0 l ∙ get_or-drop (a * n) list s 0

module _ (n m : ℕ) (list : List ℕ) (size : length list ≡ (m + 1) * n) where
  row-long : (a : ℕ) → a ≤ m → length (row_at n list a) ≡ n
  row-long a l = length-take-le n (drop (a * n) list) (omega (arith, length-drop (a * n) list, row_within (m + 1) n a (omega arith)))

  -- orders of all streets for each site are lines of streets
  lines-ordered : (key : ℕ → ℕ → ℕ) → ((a : ℕ) → a ≤ m → row_at n list a ≡ ordered (key a) (λ s. true) n) → Lines n m list
  lines-ordered key o = record { size = size; streets = λ i l. street i (omega arith) }
    where
      street : (i : ℕ) → i < (m + 1) * n → at list i < n
      street i l = by_cases (dec_lt 0 n) (λ some. found some) (λ none. absurd (omega (arith, ap (λ (x : ℕ). (m + 1) * x) (nothing none), mul-zero (m + 1))))
        where
          nothing : ¬ (0 < n) → n ≡ 0
          nothing none = omega arith

          found : 0 < n → at list i < n
          found some =
              let a : ℕ = i / n in
              let s : ℕ = i % n in
              let low : a < m + 1 = (div-lt_iff_lt-mul {k = n} {x = i} {y = m + 1} some).1 l in
              let col : s < n = mod-lt i {m = n} some in
              let line : List ℕ = ordered (key a) (λ s. true) n in
              let here : at list i ≡ at line s =
              ap (λ (x : ℕ). at list x) (sym (div-add-mod' i n)) ∙ sym (row-cell n list a s col) ∙ ap (λ (L : List ℕ). at L s) (o a (omega arith)) in
              let long : length line ≡ n = sym (ap length (o a (omega arith))) ∙ row-long a (omega arith) in
              omega (arith, here, (ordered-street (key a) (λ s. true) n (at line s) (has-at line s (omega arith))).0)

-- ---- the tables of the rounds
module _ {t : Town} (ok : Accepted t) {values : List ℕ} (filled : Tabled (value t) t.n (t.m + 1) values) where
  -- where all weights are the same, the values fall with the places
  pub values-fall : Even t.weights → FallsBy (row_key t.m t.rows) (value_in values t.m) t.n t.m
  values-fall even = table-falls ok even (value_in values t.m) (street-same ok filled)

  -- keys that compare like those of the rounds, and the orders by them
  module _ (keys orders : List ℕ) (same : CompareAlike (cell keys t.n) (round_key (value_in values t.m) t.m t.rows) t.n t.m)
      (size : length orders ≡ (t.m + 1) * t.n) (sorted : Orders (λ a. at (row_at t.n keys a)) t.n t.m orders) where
    rows-alike : CompareAlike (λ a. at (row_at t.n keys a)) (round_key (value_in values t.m) t.m t.rows) t.n t.m
    rows-alike a s u l i j = rw (row-cell t.n keys a s i, row-cell t.n keys a u j) (same a s u l i j)

    -- the orders are those of the rounds
    round-orders : Orders (round_key (value_in values t.m) t.m t.rows) t.n t.m orders
    round-orders = orders-alike _ (round_key (value_in values t.m) t.m t.rows) t.n t.m orders rows-alike sorted

    -- they are lines of streets, along which the values never rise
    pub lines-ready : Lines t.n t.m orders
    lines-ready = lines-ordered t.n t.m orders size _ round-orders

    pub falling-ready : Falling (value_in values t.m) t.n t.m orders
    falling-ready =
        lines-fall (value_in values t.m) _ t.n t.m orders round-orders
        (counted-falling (value_in values t.m) (row_place t.m t.rows) most_value t.n t.m (λ a s l u. (street-ready ok filled).small _)
        (λ a s l u. place-few t.m t.rows s a))

    -- what they play by the table is what they play by the town's values
    pub rounds-surveyed : (k : ℕ) {state : plan.State}
        → ((key : ℕ → ℕ → ℕ) → Orders key t.n t.m orders → state ≡ rounds (value_in values t.m) key t.n t.m (round_share t.n k) k)
        → state ≡ balanced_rounds t k
    rounds-surveyed k play =
        play _ round-orders
        ∙ rounds-agree (value_in values t.m) (value t) (round_key (value_in values t.m) t.m t.rows) (street_key t) t.n t.m (round_share t.n k)
        (street-same ok filled)
        (λ a s l u. ap (λ (x : ℕ). (most_value - x) * (t.m + 2) + row_key t.m t.rows a s) (street-same ok filled s a u l)) k

-- ---- the rounds' sites and division
module _ (v key : ℕ → ℕ → ℕ) (n m k : ℕ) (some : 0 < k) (few : k ≤ m) where
  -- the sites after the rounds
  abbrev end : plan.State
  end = rounds v key n m (round_share n k) k

  -- they are k different ones of 1 to m
  pub sites-plan : Choice m k end.chosen
  sites-plan = rounds-plan v key n m (round_share n k) k few

  -- over which the streets can be shared
  pub sites-shareable : Shareable m end.chosen
  sites-shareable =
      let p = sites-plan in
      record { some = omega (arith, p.size); few = omega (arith, p.size, few); sites = p.sites; apart = p.apart }

  -- and the rounds share them so
  pub division-shared : InShares end.division (shares_of (round_share n (length end.chosen)) end.chosen m)
  division-shared = rw sites-plan.size (rounds-in v key n m (round_share n k) k few (shares-all n k some))

  -- the same for lists that are these, with the shares as they were given out
  module _ {sites : List ℕ} (e : sites ≡ end.chosen) where
    pub rounds-shareable : Shareable m sites
    rounds-shareable = along (λ (S : List ℕ). Shareable m S) e sites-shareable

    pub rounds-begun : {shares division : List ℕ} → division ≡ end.division → Shared n m sites shares → Begun n m sites shares division
    rounds-begun {shares} {division} d shared =
        let same : tail shares ≡ shares_of (round_share n (length end.chosen)) end.chosen m =
        shared.right ∙ ap (λ (S : List ℕ). shares_of (round_share n (length S)) S m) e in
        record { shared = shared; divided = rw (d, same) division-shared }

-- over the sites that the rounds or the caller have chosen, streets can be shared
pub chosen-shareable : (t : Town) (chooser : Chooser) (list sites : List ℕ) → Listed chooser t.m list
    → sites ≡ sites_of chooser (balanced_sites t (length list)) list → Shareable t.m sites
chosen-shareable t chooser.Rounds list sites ok e =
    along (λ (S : List ℕ). Shareable t.m S) e (sites-shareable (value t) (street_key t) t.n t.m (length list) ok.0 ok.1)
chosen-shareable t chooser.Caller list sites ok e = along (λ (S : List ℕ). Shareable t.m S) e ok
