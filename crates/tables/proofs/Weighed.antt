-- What the loop over the sites keeps while keys by place become keys by counted score, and that they are then those of the plan.
-- Assumes nothing.
use mathlib.Core.Path.{◌≡◌, refl, sym, ap, ◌∙◌}
use mathlib.Core.Logic.{by_cases}
use mathlib.Core.List.{List}
use Prim.Native.Nat.{ℕ, ◌+◌, ◌-◌, ◌*◌, ◌≤◌, ◌<◌}
use native.Mathlib.Nat.{mul-le-mul}
use native.Mathlib.Decide.{dec_lt, ℕ_discrete}
use native.Mathlib.Omega.{arith}
use mir.Syntax.{w32}
use mir.Val.{Fits}
use lib.ListN.{length}
use Rattle.counting.specs.Bounds.{most_sites, most_entries, most_value}
use Rattle.counting.specs.Lists.{at, cell}
use Rattle.counting.specs.Buffers.{Mapped}
use Rattle.counting.proofs.Sums.{at-past}
use Rattle.counting.proofs.Tables.{row_within, in_rows}
use Rattle.counting.proofs.Parts.{part, put, part_length, part_at, put-length, put-before, put_in, put-behind}
use Rattle.survey.proofs.Lists.{place-few}
use Rattle.balanced_plan.specs.Falling.{FallsBy, CompareAlike}
use Rattle.balanced_plan.proofs.Keys.{key-most}
use Rattle.balanced_plan.proofs.CountedKeys.{counted-alike}
use Rattle.tables.specs.Tables.{StreetTable, value_in}
use Rattle.tables.specs.RoundKeys.{row_place, row_key, round_key}
use Rattle.tables.proofs.Filling.{table-small}

-- ---- one key
-- where a street's value stands in the table
pub value-spot : {n m : ℕ} {values : List ℕ} → StreetTable n m values → (s a : ℕ) → s < n → a ≤ m
    → (s * (m + 1) + a < length values) × (length values ≤ most_entries)
value-spot {n} {m} t s a l h =
    (omega (arith, in_rows s n (m + 1) a l (omega arith), t.size), omega (arith, t.size, table-small n m t.few-streets t.few-sites))

-- a number up to the greatest value, times m + 2, fits 32 bits, and so it does with a key by place added
pub score-fits : {x base : ℕ} → x ≤ most_value → base ≤ most_sites + 2 → Fits w32 (x * base)
score-fits l h = omega (arith, mul-le-mul l h)

pub key_fits : {x base key : ℕ} → x ≤ most_value → base ≤ most_sites + 2 → key ≤ most_sites + 1 → Fits w32 (x * base + key)
key_fits l h k = omega (arith, mul-le-mul l h)

-- ---- the table
-- the rows of the sites below b are changed by f, and the others are as they were
pub record Weighed (f : ℕ → ℕ → ℕ → ℕ) (n : ℕ) (before keys : List ℕ) (b : ℕ) : Type 0 where
  pub size : length keys ≡ length before
  pub done : (a s : ℕ) → a < b → s < n → cell keys n a s ≡ f a s (cell before n a s)
  pub rest : (i : ℕ) → b * n ≤ i → at keys i ≡ at before i

-- it starts with none
pub weighed-none : (f : ℕ → ℕ → ℕ → ℕ) (n : ℕ) (before : List ℕ) → Weighed f n before before 0
weighed-none f n before = record { size = refl; done = λ a s l. absurd (omega arith); rest = λ i l. refl }

module _ (m : ℕ) {f : ℕ → ℕ → ℕ → ℕ} {n : ℕ} {before keys : List ℕ} {b : ℕ} (fits : length before ≡ (m + 1) * n) (w : Weighed f n before keys b)
    (l : b < m + 1) where
  -- the site's row ends within the table
  pub weighed-ends : b * n + n ≤ length keys
  weighed-ends = omega (arith, row_within (m + 1) n b l, w.size, fits)

  -- as it is lent, it has n keys
  pub weighed-row : length (part (b * n) (b * n + n) keys) ≡ n
  weighed-row = part_length (b * n) (b * n + n) keys weighed-ends ∙ omega arith

  -- its keys are as they were
  pub weighed-small : (x : ℕ) → ((a s : ℕ) → a ≤ m → s < n → cell before n a s ≤ x) → (s : ℕ) → at (part (b * n) (b * n + n) keys) s ≤ x
  weighed-small x h s =
      by_cases (dec_lt s n)
      (λ k. omega (arith, part_at (b * n) (b * n + n) keys weighed-ends s (omega arith), w.rest (b * n + s) (omega arith), h b s (omega arith) k))
      (λ o. omega (arith, at-past (part (b * n) (b * n + n) keys) s (omega (arith, weighed-row))))

  -- with the row back, one site more is done
  pub weighed-more : (new : List ℕ) → Mapped (f b) (part (b * n) (b * n + n) keys) new (length (part (b * n) (b * n + n) keys))
      → Weighed f n before (put (b * n) (b * n + n) keys new) (b + 1)
  weighed-more new h =
      record {
        size = put-length from to keys weighed-ends new order fit ∙ w.size;
        done = λ a s k u. by_cases (ℕ_discrete a b) (λ e. rw e (own s u)) (λ d. earlier a s (omega arith) u);
        rest = λ i k. put-behind from to keys weighed-ends new order fit i (omega arith) ∙ w.rest i (omega arith);
      }
    where
      from : ℕ
      from = b * n

      to : ℕ
      to = b * n + n

      order : from ≤ to
      order = omega arith

      fit : length new ≡ to - from
      fit = h.size ∙ part_length from to keys weighed-ends

      own : (s : ℕ) → s < n → cell (put from to keys new) n b s ≡ f b s (cell before n b s)
      own s u =
          put_in from to keys weighed-ends new order fit s (omega arith) ∙ h.done s (omega (arith, weighed-row))
          ∙ ap (f b s) (part_at from to keys weighed-ends s (omega arith) ∙ w.rest (b * n + s) (omega arith))

      earlier : (a s : ℕ) → a < b → s < n → cell (put from to keys new) n a s ≡ f a s (cell before n a s)
      earlier a s k u = put-before from to keys weighed-ends new order fit (a * n + s) (omega (arith, in_rows a b n s k u)) ∙ w.done a s k u

-- it ends with the whole table
pub weighed-all : {f : ℕ → ℕ → ℕ → ℕ} {n m : ℕ} {before keys : List ℕ} {b : ℕ} → m < b → Weighed f n before keys b
    → (a s : ℕ) → a ≤ m → s < n → cell keys n a s ≡ f a s (cell before n a s)
weighed-all l w a s k u = w.done a s (omega arith) u

-- ---- the plan's keys
module _ {n m : ℕ} (rows before : List ℕ) (right : (a s : ℕ) → a ≤ m → s < n → cell before n a s ≡ row_key m rows a s) where
  -- keys by place are small enough to be weighed
  pub places-small : m ≤ most_sites → (a s : ℕ) → a ≤ m → s < n → cell before n a s ≤ most_sites + 1
  places-small few a s l h = omega (arith, right a s l h, key-most (row_place m rows) m a s (place-few m rows s a))

  -- where the values fall with the places they give the order of the rounds
  pub places-alike : (values : List ℕ) → StreetTable n m values → FallsBy (row_key m rows) (value_in values m) n m
      → CompareAlike (cell before n) (round_key (value_in values m) m rows) n m
  places-alike values table falls a s t l i j =
      rw (right a s l i, right a t l j)
      (sym (counted-alike (value_in values m) (row_place m rows) most_value n m (λ a s h k. table.small (s * (m + 1) + a))
      (λ a s h k. place-few m rows s a) falls a s t l i j))

  -- once they are weighed they are those of the rounds
  pub weighed-alike : (values keys : List ℕ)
      → ((a s : ℕ) → a ≤ m → s < n → cell keys n a s ≡ (most_value - cell values (m + 1) s a) * (m + 2) + cell before n a s)
      → CompareAlike (cell keys n) (round_key (value_in values m) m rows) n m
  weighed-alike values keys weighed a s t l i j = rw (same s i, same t j) refl
    where
      same : (s : ℕ) → s < n → cell keys n a s ≡ round_key (value_in values m) m rows a s
      same s h = weighed a s l h ∙ ap (λ (x : ℕ). (most_value - cell values (m + 1) s a) * (m + 2) + x) (right a s l h)
