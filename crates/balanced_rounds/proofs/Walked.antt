-- Laws of the walks along a line: what is counted or given so far, and what the rest of the line still adds, make up the whole.
-- Assumes nothing.
use mathlib.Core.Path.{◌≡◌, refl, sym, ap, ◌∙◌}
use mathlib.Core.Bool.{true}
use mathlib.Core.List.{List, [], ◌∷◌}
use mathlib.Core.Logic.{by_cases}
use Prim.Native.Nat.{ℕ, zero, suc, ◌+◌, ◌*◌, ◌-◌, ◌≤◌, ◌<◌}
use native.Mathlib.Nat.{mul-le-mul_left, mul-one, mul-zero}
use native.Mathlib.Numerals.{add-one}
use native.Mathlib.Decide.{ℕ_discrete}
use native.Mathlib.Omega.{arith}
use lib.ListN.{length, drop, length-drop}
use lib.Seq.{drop-cons, drop-length, get_or-drop}
use borrow.Author.Tests.{eq-eqb, ne_eqb}
use Rattle.counting.specs.Bounds.{most_entries, most_value}
use Rattle.counting.specs.Lists.{at, has, sum}
use Rattle.counting.proofs.Listed.{only-has, has-take, sum-even}
use Rattle.counting.proofs.Membership.{sum-le}
use Rattle.counting.proofs.Sums.{has-index}
use Rattle.counting.proofs.Tables.{in_rows}
use Rattle.survey.specs.Rows.{value}
use Rattle.tables.proofs.Filling.{table-small}
use Rattle.tables.specs.Tables.{StreetTable}
use Rattle.balanced_plan.specs.Rounds.{free, give}
use Rattle.balanced_rounds.specs.Lines.{picked, Falls, Stepped}

-- a free street at the front of a line is the first that is picked
picked-free : (division line : List ℕ) (s q : ℕ) → at division s ≡ 0 → picked (s ∷ line) (suc q) division ≡ s ∷ picked line q division
picked-free division line s q e = rw (eq-eqb (at division s) 0 e) refl

-- one that is given away is passed
picked-past : (division line : List ℕ) (s q : ℕ) → (at division s ≡ 0 → ⊥) → picked (s ∷ line) q division ≡ picked line q division
picked-past division line s q n = rw (ne_eqb (at division s) 0 n) refl

-- none is picked where none is asked for
picked_none : (division line : List ℕ) → picked line 0 division ≡ []
picked_none division line = refl

-- nor from an empty line
picked-empty : (division : List ℕ) (q : ℕ) → picked [] q division ≡ []
picked-empty division zero = refl
picked-empty division (suc q) = refl

-- the rest of a line from an index on begins with the street there
rest_of : (line : List ℕ) (j : ℕ) → j < length line → drop j line ≡ at line j ∷ drop (j + 1) line
rest_of line j l = rw add-one (drop-cons line j 0 l)

-- nothing is left of a line past its end
rest-none : (line : List ℕ) (j : ℕ) → length line ≤ j → j ≤ length line → drop j line ≡ []
rest-none line j l m = let e : j ≡ length line = omega arith in rw e (drop-length line)

-- a value that counts once or not at all
pub once-le : (value once : ℕ) → once ≤ 1 → value * once ≤ value
once-le value once l = omega (arith, mul-le-mul_left value l)

pub once-all : (value once : ℕ) → once ≡ 1 → value * once ≡ value
once-all value once e = rw e (mul-one value)

pub once-none : (value once : ℕ) → once ≡ 0 → value * once ≡ 0
once-none value once e = rw e (mul-zero value)

-- a street that is counted once where it is free, and not at all where it is given away
pub stepped : (value site left total once x : ℕ) → 0 < left → (site ≡ 0 → once ≡ 1) → ((site ≡ 0 → ⊥) → once ≡ 0)
    → (once ≡ 1 → x ≡ value) → (once ≡ 0 → x ≡ 0) → Stepped value site left total (left - once) (total + x)
stepped value site left total once x some free given counts none = record {
  counted = λ e. (omega (arith, free e), ap (λ (y : ℕ). total + y) (counts (free e)));
  passed = λ n. (omega (arith, given n), omega (arith, none (given n)));
}

-- a sum over the first q free streets of a line, of which the line from j on still has `left`
pub record Adding (f : ℕ → ℕ) (line division : List ℕ) (q j left total : ℕ) : Type 0 where
  pub room : total + left * most_value ≤ q * most_value
  pub rest : total + sum f (picked (drop j line) left division) ≡ sum f (picked line q division)

module _ {f : ℕ → ℕ} {line division : List ℕ} {q : ℕ} where
  -- nothing is added yet
  pub adding-none : Adding f line division q 0 q 0
  adding-none = record { room = omega arith; rest = omega arith }

  module _ {j left total : ℕ} (h : Adding f line division q j left total) where
    -- none is left to be found
    pub adding-done : left ≡ 0 → total ≡ sum f (picked line q division)
    adding-done e = let whole = rw e at h.rest in omega (arith, whole)

    -- or the line has come to its end
    pub adding-end : length line ≤ j → j ≤ length line → total ≡ sum f (picked line q division)
    adding-end l m =
        let none : sum f (picked (drop j line) left division) ≡ 0 = rw (rest-none line j l m, picked-empty division left) refl in
        omega (arith, h.rest)

    module _ (l : j < length line) where
      -- one street more
      pub adding-more : {left' total' : ℕ} → Stepped (f (at line j)) (at division (at line j)) left total left' total' → 0 < left
          → f (at line j) ≤ most_value → Adding f line division q (j + 1) left' total'
      adding-more {left'} {total'} step some small =
          by_cases (ℕ_discrete (at division (at line j)) 0) (λ e. counted e (step.counted e)) (λ n. passed n (step.passed n))
        where
          counted : at division (at line j) ≡ 0 → (left' + 1 ≡ left) × (total' ≡ total + f (at line j)) → Adding f line division q (j + 1) left' total'
          counted e (a, b) =
              let more : left ≡ suc left' = omega arith in
              let front : picked (drop j line) left division ≡ at line j ∷ picked (drop (j + 1) line) left' division =
              rw (rest_of line j l, more) (picked-free division (drop (j + 1) line) (at line j) left' e) in
              record { room = omega (arith, h.room); rest = omega (arith, h.rest, ap (sum f) front) }

          passed : (at division (at line j) ≡ 0 → ⊥) → (left' ≡ left) × (total' ≡ total) → Adding f line division q (j + 1) left' total'
          passed n (a, b) =
              let front : picked (drop j line) left division ≡ picked (drop (j + 1) line) left division =
              rw (rest_of line j l) (picked-past division (drop (j + 1) line) (at line j) left n) in
              record { room = omega (arith, h.room); rest = rw (a, b) (rw front at h.rest) }

      -- or it has the value 0, and so have all that follow
      pub adding-stop : f (at line j) ≡ 0 → Falls f line → total ≡ sum f (picked line q division)
      adding-stop e falls = omega (arith, h.rest, sum-le f (λ s. 0) rest worthless, sum-even 0 rest)
        where
          rest : List ℕ
          rest = picked (drop j line) left division

          worthless : (s : ℕ) → has s rest ≡ true → f s ≤ 0
          worthless s in_rest =
              let (i, short, here) = has-index s (drop j line) (only-has (free division) s (drop j line) (has-take left s _ in_rest)).0 in
              let there : at line (j + i) ≡ s = sym (get_or-drop j line i 0) ∙ here in
              let fall : f (at line (j + i)) ≤ f (at line j) = falls j (j + i) (omega arith) (omega (arith, length-drop j line)) in
              omega (arith, rw there at fall)

-- the first q free streets of a line given to a site, of which the line from j on still has `left`
pub record Giving (a : ℕ) (line before start : List ℕ) (q j left : ℕ) (division : List ℕ) : Type 0 where
  pub long : length division ≡ length before
  pub rest : give a (picked (drop j line) left before) division ≡ give a (picked line q before) start

module _ {a : ℕ} {line before start : List ℕ} {q : ℕ} where
  -- none is given yet
  pub giving-none : length before ≡ length start → Giving a line before start q 0 q start
  giving-none e = record { long = sym e; rest = refl }

  module _ {j left : ℕ} {division : List ℕ} (h : Giving a line before start q j left division) where
    -- all are given
    pub giving-done : left ≡ 0 → division ≡ give a (picked line q before) start
    giving-done e = rw e at h.rest

    -- or the line has come to its end
    pub giving-end : length line ≤ j → j ≤ length line → division ≡ give a (picked line q before) start
    giving-end l m =
        let none : picked (drop j line) left before ≡ [] = rw (rest-none line j l m) (picked-empty before left) in
        rw none at h.rest

    -- one street more
    pub giving-more : (left' : ℕ) (division' : List ℕ) → j < length line → 0 < left → length division' ≡ length division
        → (at before (at line j) ≡ 0 → (left' + 1 ≡ left) × (division' ≡ give a (at line j ∷ []) division))
        → ((at before (at line j) ≡ 0 → ⊥) → (left' ≡ left) × (division' ≡ division))
        → Giving a line before start q (j + 1) left' division'
    giving-more left' division' l some size given passed =
        by_cases (ℕ_discrete (at before (at line j)) 0) (λ e. yes-given e (given e)) (λ n. not-given n (passed n))
      where
        yes-given : at before (at line j) ≡ 0 → (left' + 1 ≡ left) × (division' ≡ give a (at line j ∷ []) division)
            → Giving a line before start q (j + 1) left' division'
        yes-given e (x, y) =
            let more : left ≡ suc left' = omega arith in
            let front : picked (drop j line) left before ≡ at line j ∷ picked (drop (j + 1) line) left' before =
            rw (rest_of line j l, more) (picked-free before (drop (j + 1) line) (at line j) left' e) in
            record { long = omega (arith, h.long); rest = rw y (rw front at h.rest) }

        not-given : (at before (at line j) ≡ 0 → ⊥) → (left' ≡ left) × (division' ≡ division) → Giving a line before start q (j + 1) left' division'
        not-given n (x, y) =
            let front : picked (drop j line) left before ≡ picked (drop (j + 1) line) left before =
            rw (rest_of line j l) (picked-past before (drop (j + 1) line) (at line j) left n) in
            record { long = omega (arith, h.long); rest = rw (x, y) (rw front at h.rest) }

-- the cell of a street and a site lies in the table, which is small
pub cell-fits : {n m : ℕ} {values : List ℕ} → StreetTable n m values → (s a : ℕ) → s < n → a ≤ m
    → (s * (m + 1) + a < length values) × (length values ≤ most_entries)
cell-fits {n} {m} t s a l o = (
  omega (arith, in_rows s n (m + 1) a l (omega arith), t.size),
  omega (arith, t.size, table-small n m t.few-streets t.few-sites),
)
