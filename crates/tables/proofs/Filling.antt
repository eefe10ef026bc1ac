-- What the loops that fill a table keep: of one street's entries after some bytes of its row, and of the table after some streets.
-- Assumes nothing.
use mathlib.Core.Path.{◌≡◌, refl, sym, ap, ◌∙◌}
use mathlib.Core.Bool.{false}
use mathlib.Core.Logic.{◌≢◌, by_cases}
use mathlib.Core.List.{List, [], ◌∷◌, ◌++◌}
use Prim.Native.Nat.{ℕ, ◌+◌, ◌*◌, ◌≤◌, ◌<◌}
use native.Mathlib.Nat.{mul-le-mul}
use native.Mathlib.Decide.{ℕ_discrete}
use native.Mathlib.Omega.{arith}
use lib.ListN.{length, take, drop, set, length-set}
use lib.Seq.{length-take-le, take-length, get_or-set_same, get_or-set_other}
use Rattle.counting.specs.Bounds.{most_streets, most_sites, most_entries}
use Rattle.counting.specs.Lists.{at, has}
use Rattle.counting.proofs.Sums.{take_next}
use Rattle.counting.proofs.Tables.{row_within, in_rows, rows_apart}
use Rattle.counting.proofs.Parts.{part_length}
use Rattle.survey.specs.Town.{Town}
use Rattle.survey.specs.Rows.{row_at, ranked_part, place_in, place_of}
use Rattle.survey.specs.Accepted.{SoundRow, Accepted}
use Rattle.survey.proofs.RowLoops.{ranked-stop, ranked-more, ranked-all, row-part}
use Rattle.survey.proofs.Places.{place_none, place-new, place-old}
use Rattle.tables.specs.Entries.{Ranked, by_site, by_street, Layout, Room, Unread, Entered}

-- an accepted survey's rows rank the sites
pub ranked : {t : Town} → Accepted t → Ranked t.n t.m t.rows
ranked ok = record { few-streets = ok.few-streets; few-sites = ok.few-sites; rows_fit = ok.rows_fit; sound-rows = ok.sound-rows }

-- ---- the two layouts
-- a table with an entry for each street and each of the sites 0, 1, .., m is not long
pub table-small : (n m : ℕ) → n ≤ most_streets → m ≤ most_sites → (m + 1) * n ≤ most_entries
table-small n m few few-sites = mul-le-mul {n₁ = m + 1} {m₁ = n} {n₂ = 65} {m₂ = 400} (omega arith) few

pub by-site : (n m : ℕ) → Layout (by_site n) n m ((m + 1) * n)
by-site n m =
    record {
      within = λ a s l k. in_rows a (m + 1) n s (omega arith) k;
      sites-apart = λ a b s l u k. rows_apart n a b s s k k;
      streets-apart = λ a b s t l u k h d e.
          by_cases (ℕ_discrete a b) (λ q. d (omega (arith, rw q at e))) (λ q. rows_apart n a b s t k h q e);
    }

pub by-street : (n m : ℕ) → Layout (by_street (m + 1)) n m (n * (m + 1))
by-street n m =
    record {
      within = λ a s l k. in_rows s n (m + 1) a k (omega arith);
      sites-apart = λ a b s l u k d e. d (omega arith);
      streets-apart = λ a b s t l u k h. rows_apart (m + 1) s t a b (omega arith) (omega arith);
    }

-- ---- one street
-- the loop over a row has passed the first j bytes, of which none is 0
pub record Passed (f own : ℕ → ℕ) (row before table : List ℕ) (j : ℕ) : Type 0 where
  pub size : length table ≡ length before
  pub front : ranked_part row ≡ take j row ++ ranked_part (drop j row)
  pub right : (a : ℕ) → a ≤ length row → at table (own a) ≡ f (place_in (take j row) a)
  pub others : (i : ℕ) → ((a : ℕ) → a ≤ length row → i ≢ own a) → at table i ≡ at before i

-- it starts with the entries of no place
pub passed_none : (f own : ℕ → ℕ) (row before : List ℕ) → Unread f own (length row) before → Passed f own row before before 0
passed_none f own row before h =
    record { size = refl; front = refl; right = λ a l. h a l ∙ ap f (sym (place_none [] a refl)); others = λ i d. refl }

module _ {f own : ℕ → ℕ} {row before table : List ℕ} {j : ℕ} (ok : SoundRow (length row) row) (room : Room own (length row) before)
    (p : Passed f own row before table j) where
  -- the entry of the byte at j is in the table, and the table is not long
  pub passed-room : j < length row → (own (at row j) < length table) × (length table ≤ most_entries)
  passed-room l = (omega (arith, room.within (at row j) (ok.named j l), p.size), omega (arith, room.size, p.size))

  -- a site gets the entry of the next place, and every other site keeps its own
  right-more : (list : List ℕ) (b x : ℕ) → b ≤ length row → x ≡ f (length list + 1) → has b list ≡ false → own b < length table
      → ((a : ℕ) → a ≤ length row → at table (own a) ≡ f (place_in list a))
      → (a : ℕ) → a ≤ length row → at (set table (own b) x) (own a) ≡ f (place_in (list ++ (b ∷ [])) a)
  right-more list b x low e new l h a u =
      by_cases (ℕ_discrete a b) (λ q. rw q (get_or-set_same table (own b) x 0 l ∙ e ∙ ap f (sym (place-new list b new))))
      (λ d. get_or-set_other table (own b) (own a) x 0 (room.apart a b u low d) ∙ h a u ∙ ap f (sym (place-old list b a d)))

  -- one byte more, which is a site
  one : (x : ℕ) → x ≡ f (j + 1) → j < length row → (at row j ≡ 0 → ⊥) → Passed f own row before (set table (own (at row j)) x) (j + 1)
  one x e l z =
      let b : ℕ = at row j in
      let low : b ≤ length row = ok.named j l in
      let new : has b (take j row) ≡ false = ok.once j l (omega arith) in
      let count : length (take j row) ≡ j = length-take-le j row (omega arith) in
      record {
        size = length-set table (own b) x ∙ p.size;
        front = ranked-more row j l p.front z;
        right = rw (take_next row j l) (right-more (take j row) b x low (rw count e) new (passed-room l).0 p.right);
        others = λ i d. get_or-set_other table (own b) i x 0 (d b low) ∙ p.others i d;
      }

  pub passed-more : {b x : ℕ} → b ≡ at row j → x ≡ f (j + 1) → j < length row → (at row j ≡ 0 → ⊥) → Passed f own row before (set table (own b) x) (j + 1)
  passed-more {b} {x} q e l z = rw q (one x e l z)

  -- a zero: the passed bytes are the ranked part
  pub passed-stop : j < length row → at row j ≡ 0 → Entered f own row before table
  passed-stop l z = record { right = rw (ranked-stop row j l p.front z) at p.right; others = p.others }

  -- so they are at the end of the row
  pub passed-all : (e : ℕ) → e ≤ j → j ≤ e → e ≡ length row → Entered f own row before table
  passed-all e a b q =
      let end : j ≡ length row = omega arith in
      let whole : take j row ≡ ranked_part row = rw (end, take-length) (ranked-all row j e a b q p.front) in
      record { right = rw whole at p.right; others = p.others }

-- ---- the table
-- the loop over the streets has filled the entries of the first s, where `f` is of the street and the place, and no other row is read yet
pub record Filled (f : ℕ → ℕ → ℕ) (index : ℕ → ℕ → ℕ) (n m : ℕ) (rows table : List ℕ) (s : ℕ) : Type 0 where
  pub layout : Layout index n m (length table)
  pub size : length table ≤ most_entries
  pub done : (a t : ℕ) → a ≤ m → t < s → t < n → at table (index a t) ≡ f t (place_of (row_at m rows t) a)
  pub rest : (t : ℕ) → s ≤ t → t < n → Unread (f t) (λ a. index a t) m table

-- it starts with the entries of no place
pub filled_none : {f : ℕ → ℕ → ℕ} {index : ℕ → ℕ → ℕ} {n m : ℕ} {rows table : List ℕ} → Layout index n m (length table) → length table ≤ most_entries
    → ((i : ℕ) → i < length table → (t : ℕ) → t < n → at table i ≡ f t 0) → Filled f index n m rows table 0
filled_none y small h =
    record {
      layout = y;
      size = small;
      done = λ a t l k u. absurd (omega arith);
      rest = λ t k u a l. h _ (y.within a t l u) t u;
    }

-- it ends with the whole table
pub filled-all : {f : ℕ → ℕ → ℕ} {index : ℕ → ℕ → ℕ} {n m : ℕ} {rows table : List ℕ} {s : ℕ} → n ≤ s → Filled f index n m rows table s
    → (a t : ℕ) → a ≤ m → t < n → at table (index a t) ≡ f t (place_of (row_at m rows t) a)
filled-all h p a t l u = p.done a t l (omega arith) u

module _ {n m : ℕ} {rows : List ℕ} {s : ℕ} (ok : Ranked n m rows) (l : s < n) where
  -- the row of the street ends within the rows
  pub row_ends : s * m + m ≤ length rows
  row_ends = omega (arith, row_within n m s l, ok.rows_fit)

  -- it has m bytes
  pub row-length : length (row_at m rows s) ≡ m
  row-length = rw (← row-part m rows s) (omega (arith, part_length (s * m) (s * m + m) rows row_ends))

  -- the row as it is lent
  module _ {row : List ℕ} (e : row ≡ row_at m rows s) where
    row_size : length row ≡ m
    row_size = ap length e ∙ row-length

    -- it is sound
    pub street-sound : SoundRow (length row) row
    street-sound = rw (row_size, e) (ok.sound-rows s l)

    -- and has a score for each byte
    pub street-scored : (scores : List ℕ) → length scores ≡ m → length scores ≡ length row
    street-scored scores fit = omega (arith, row_size, fit)

    module _ {f : ℕ → ℕ → ℕ} {index : ℕ → ℕ → ℕ} {table : List ℕ} (p : Filled f index n m rows table s) where
      -- the table has room for the street
      pub street-room : Room (λ a. index a s) (length row) table
      street-room =
          rw row_size
          (record {
            within = λ a u. p.layout.within a s u l;
            apart = λ a b u v. p.layout.sites-apart a b s u v l;
            few-sites = ok.few-sites;
            size = p.size;
          })

      -- the street's row is not read yet
      pub street-unread : Unread (f s) (λ a. index a s) (length row) table
      street-unread = rw row_size (p.rest s (omega arith) l)

      -- with its entries the table is filled by one street more
      pub filled_more : (after : List ℕ) → length after ≡ length table → Entered (f s) (λ a. index a s) row table after
          → Filled f index n m rows after (s + 1)
      filled_more after q k =
          record {
            layout = rw q p.layout;
            size = omega (arith, p.size);
            done = λ a u v w x. by_cases (ℕ_discrete u s) (λ q. rw q (own a v)) (λ d. other a u v x d ∙ p.done a u v (omega arith) x);
            rest = λ u v w a x. other a u x w (λ q. omega arith) ∙ p.rest u (omega arith) w a x;
          }
        where
          own : (a : ℕ) → a ≤ m → at after (index a s) ≡ f s (place_of (row_at m rows s) a)
          own a u = k.right a (omega (arith, row_size)) ∙ ap (λ (row : List ℕ). f s (place_of row a)) e

          other : (a u : ℕ) → a ≤ m → u < n → u ≢ s → at after (index a u) ≡ at table (index a u)
          other a u v w d = k.others (index a u) (λ b x. p.layout.streets-apart a b u s v (omega (arith, row_size)) w l d)
