-- The keys as the entries of a table by site: a place is its own key, and no place has the key m + 1.
-- Assumes nothing.
use mathlib.Core.Path.{◌≡◌, refl, ap, ◌∙◌}
use mathlib.Core.List.{List}
use Prim.Native.Nat.{ℕ, suc, ◌+◌, ◌*◌, ◌≤◌, ◌<◌}
use native.Mathlib.Numerals.{add-one}
use native.Mathlib.Omega.{arith}
use lib.ListN.{length, replicate, length-replicate, get_or-replicate}
use Rattle.counting.specs.Bounds.{most_streets, most_sites}
use Rattle.counting.specs.Words.{◌or_else◌}
use Rattle.counting.specs.Lists.{at}
use Rattle.counting.proofs.Refusals.{or-stop, or-pass}
use Rattle.survey.specs.Rows.{row_at}
use Rattle.tables.specs.Entries.{Ranked, by_site, Unread, Entered}
use Rattle.tables.proofs.Filling.{table-small, by-site, Filled, filled_none, filled_more, row-length}

-- the key of a place
abbrev pub key_at : ℕ → ℕ → ℕ
key_at m p = p or_else suc m

-- the place j + 1 is stored as its own key
pub key-next : (m j : ℕ) → j + 1 ≡ key_at m (j + 1)
key-next m j = or-stop (j + 1) (j + 1) (suc m) refl (λ z. omega arith)

-- the table starts with every street last at every site
pub keys_none : {n m : ℕ} (rows : List ℕ) {size : ℕ} {keys : List ℕ} → n ≤ most_streets → m ≤ most_sites → size ≡ (m + 1) * n
    → keys ≡ replicate size (m + 1) → Filled (λ s. key_at m) (by_site n) n m rows keys 0
keys_none {n} {m} rows {size} {keys} few few-sites e h =
    let long : length keys ≡ (m + 1) * n = ap length h ∙ length-replicate size (m + 1) ∙ e in
    filled_none (rw long (by-site n m)) (omega (arith, table-small n m few few-sites))
    (λ i l t k. ap (λ (L : List ℕ). at L i) h ∙ get_or-replicate size i (m + 1) 0 (omega (arith, long, e)) ∙ or-pass (m + 1) 0 0 (suc m) refl refl (add-one m))

-- the call for the street names its keys by the length of the row that it is lent
module _ {n m : ℕ} {rows : List ℕ} {s : ℕ} {keys : List ℕ} (ok : Ranked n m rows) (l : s < n) {row : List ℕ} (e : row ≡ row_at m rows s)
    (p : Filled (λ s. key_at m) (by_site n) n m rows keys s) where
  same : length row ≡ m
  same = ap length e ∙ row-length ok l

  -- the street still comes last
  pub street-last : Unread (key_at (length row)) (λ a. by_site n a s) (length row) keys
  street-last = rw same (p.rest s (omega arith) l)

  -- with its keys the table is filled by one street more
  pub keys-more : (after : List ℕ) → length after ≡ length keys → Entered (key_at (length row)) (λ a. by_site n a s) row keys after
      → Filled (λ s. key_at m) (by_site n) n m rows after (s + 1)
  keys-more after q k = filled_more ok l e p after q (rw same at k)
