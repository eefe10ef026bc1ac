-- Laws of a table of values between the survey and an engine: a part of an array is filled, and is then lent.
-- Assumes nothing.
use mathlib.Core.Path.{◌≡◌, sym, ap, ◌∙◌}
use mathlib.Core.List.{List}
use Prim.Native.Nat.{ℕ, ◌+◌, ◌*◌, ◌/◌, ◌%◌, ◌≤◌, ◌<◌}
use native.Mathlib.Nat.{div-add-mod', mod-lt, div-lt_iff_lt-mul, mul-zero}
use native.Mathlib.Omega.{arith}
use native.Mathlib.Decide.{dec_lt}
use lib.ListN.{take, replicate}
use Rattle.counting.specs.Bounds.{most_streets, most_sites, top_score, most_entries, most_value}
use Rattle.counting.specs.Lists.{at}
use Rattle.counting.proofs.Sums.{at-past}
use Rattle.counting.proofs.Parts.{front_length, front-blank}
use Rattle.survey.specs.Town.{Town}
use Rattle.survey.specs.Rows.{score_at, score, value}
use Rattle.survey.specs.Accepted.{Accepted}
use Rattle.survey.proofs.Places.{score-none, scored-bound, valued-bound}
use Rattle.tables.specs.Entries.{Layout}
use Rattle.tables.specs.Tables.{Blank, Tabled, ValueTable, StreetTable, SiteTable, value_in, site_value}
use Rattle.tables.proofs.Filling.{table-small, Filled, filled_none}

-- ---- any table
module _ {height width most : ℕ} (fits : height * width ≤ most) where
  -- as a part of an array, before it is filled
  pub part-blank : Blank height width (take (height * width) (replicate most 0))
  part-blank = record { size = front_length (height * width) most fits; none = front-blank (height * width) most fits }

module _ {f : ℕ → ℕ → ℕ} {height width : ℕ} {table : List ℕ} (h : Tabled f height width table) where
  -- each entry is that of some row and column
  small : (most : ℕ) → 0 < width → ((r c : ℕ) → f r c ≤ most) → (i : ℕ) → Dec (i < height * width) → at table i ≤ most
  small most some low i (yes l) =
      let r : ℕ = i / width in
      let c : ℕ = i % width in
      let row : r < height = (div-lt_iff_lt-mul {k = width} {x = i} {y = height} some).1 l in
      let there : r * width + c ≡ i = div-add-mod' i width in
      let e : at table (r * width + c) ≡ f r c = h.right r c row (mod-lt i {m = width} some) in
      omega (arith, ap (λ (x : ℕ). at table x) there, e, low r c)
  small most some low i (no l) = omega (arith, at-past table i (omega (arith, h.size)))

  -- so an engine may use it
  pub table-ready : (most n m : ℕ) → n ≤ most_streets → m ≤ most_sites → 0 < width → ((r c : ℕ) → f r c ≤ most) → ValueTable most n m height width table
  table-ready most n m few few-sites some low =
      record { few-streets = few; few-sites = few-sites; size = h.size; small = λ i. small most some low i (dec_lt i (height * width)) }

-- ---- the values of a town
-- a blank table holds the entries of no street, where no place has the entry 0
pub blank-start : {index : ℕ → ℕ → ℕ} {n m height width : ℕ} {values : List ℕ} (f : ℕ → ℕ → ℕ) (rows : List ℕ) → ((s : ℕ) → f s 0 ≡ 0)
    → Layout index n m (height * width) → height * width ≤ most_entries → Blank height width values → Filled f index n m rows values 0
blank-start f rows none y small b = filled_none (rw b.size y) (omega (arith, b.size)) (λ i l t k. b.none i ∙ sym (none t))

-- scores are so, with weights or without
pub weighed-none : (weights scores : List ℕ) (s : ℕ) → at weights s * score_at scores 0 ≡ 0
weighed-none weights scores s = ap (λ (x : ℕ). at weights s * x) (score-none scores) ∙ mul-zero (at weights s)

module _ {t : Town} (ok : Accepted t) where
  -- the table by street fits its array, and an engine may use it once it is filled
  pub street-fits : t.n * (t.m + 1) ≤ most_entries
  street-fits = omega (arith, table-small t.n t.m ok.few-streets ok.few-sites)

  pub street-ready : {table : List ℕ} → Tabled (value t) t.n (t.m + 1) table → StreetTable t.n t.m table
  street-ready h =
      table-ready h most_value t.n t.m ok.few-streets ok.few-sites (omega arith) (λ s a. omega (arith, valued-bound ok s a))

  -- and it holds the town's values
  pub street-same : {table : List ℕ} → Tabled (value t) t.n (t.m + 1) table → (s a : ℕ) → s < t.n → a ≤ t.m → value_in table t.m s a ≡ value t s a
  street-same h s a l u = h.right s a l (omega arith)

  -- the same by site, with scores
  pub site-fits : (t.m + 1) * t.n ≤ most_entries
  site-fits = table-small t.n t.m ok.few-streets ok.few-sites

  pub site-ready : {table : List ℕ} → Tabled (λ a s. score t s a) (t.m + 1) t.n table → SiteTable t.n t.m table
  site-ready h = table-ready h top_score t.n t.m ok.few-streets ok.few-sites ok.some-street (λ a s. scored-bound ok s a)

  pub site-same : {table : List ℕ} → Tabled (λ a s. score t s a) (t.m + 1) t.n table
      → (s a : ℕ) → s < t.n → a ≤ t.m → site_value table t.n s a ≡ score t s a
  site-same h s a l u = h.right a s (omega arith) l
