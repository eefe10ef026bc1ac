-- Laws of filling the buffers from a file that is not refused: where each street's record begins, what its row and its weight are, and that a front
-- that has been filled with a list is the list laid over the buffer.
-- Assumes nothing.
use mathlib.Core.Path.{◌≡◌, refl, sym, ap, ◌∙◌}
use mathlib.Core.Logic.{by_cases}
use mathlib.Core.Bool.{Bool, true, false, cond}
use mathlib.Core.List.{List, ◌++◌}
use Prim.Native.Nat.{ℕ, ◌+◌, ◌-◌, ◌*◌, ◌≤◌, ◌<◌}
use native.Mathlib.Nat.{mul-le-mul, zero-add}
use native.Mathlib.Decide.{dec_lt}
use native.Mathlib.Omega.{arith}
use lib.ListN.{length, take, drop, replicate, length-append, length-drop, length-replicate, get_or-replicate, get_or-append}
use lib.Seq.{get_or-take, get_or-drop, get_or-append-add, drop-drop, ext_get_or}
use Rattle.counting.specs.Bounds.{most_streets, most_sites, most_rows}
use Rattle.counting.specs.Lists.{at}
use Rattle.counting.specs.Buffers.{Mapped, laid}
use Rattle.counting.proofs.Sums.{at-past, list_of-at}
use Rattle.counting.proofs.Filling.{mapped-none, mapped_end}
use Rattle.counting.proofs.Tables.{row_within}
use Rattle.counting.proofs.Parts.{put, put-length, put-before, put_in, put-behind}
use Rattle.survey.specs.Rows.{row_of}
use Rattle.survey.specs.Accepted.{Accepted}
use Rattle.survey_file.specs.Decode.{word_at, weights_in, weights_size, list_in, row_from, past, scores_part, weights_part, form_in, streets_in, sites_in}
use Rattle.survey_file.specs.Decode.{streets_part, rows_in, town_in, file_refusal, FileTaken}
use Rattle.survey_file.specs.FileBuffers.{rows_read, scores_read, weights_read}
use Rattle.survey_file.proofs.Accepting.{FileSays, file-says}
use Rattle.survey_file.proofs.Weights.{weights-whole}
use Rattle.survey_file.proofs.WrittenBack.{row_read, town-accepted}
use Rattle.file_reader.proofs.Walking.{street-past}

-- a list laid over the front of a buffer
laid-front : (before list : List ℕ) → laid before 0 list ≡ list ++ drop (length list) before
unfolding laid
laid-front before list = rw zero-add refl

-- a front that has been filled with a list is the list laid over the buffer
pub mapped-laid : (list before now : List ℕ) (k : ℕ) → k ≡ length list → length list ≤ length before → Mapped (λ i x. at list i) before now k
    → now ≡ laid before 0 list
mapped-laid list before now k e fits h = ext_get_or 0 now (list ++ drop (length list) before) size same ∙ sym (laid-front before list)
  where
    size : length now ≡ length (list ++ drop (length list) before)
    size = omega (arith, h.size, length-append list (drop (length list) before), length-drop (length list) before)

    behind : (r : ℕ) → at (list ++ drop (length list) before) (length list + r) ≡ at before (length list + r)
    behind r = get_or-append-add list (drop (length list) before) r 0 ∙ get_or-drop (length list) before r 0

    same : (i : ℕ) → i < length now → at now i ≡ at (list ++ drop (length list) before) i
    same i l =
        by_cases (dec_lt i (length list)) (λ m. h.done i (omega arith) ∙ sym (get_or-append list (drop (length list) before) 0 i m))
        (λ o. let there : length list + (i - length list) ≡ i = omega arith in h.rest i (omega arith) ∙ sym (rw there at (behind (i - length list))))

-- a part more is filled
pub mapped-part : (g : ℕ → ℕ) (before now ys : List ℕ) (from to : ℕ) → from ≤ to → to ≤ length now → length ys ≡ to - from
    → ((j : ℕ) → from + j < to → at ys j ≡ g (from + j)) → Mapped (λ i x. g i) before now from → Mapped (λ i x. g i) before (put from to now ys) to
mapped-part g before now ys from to order fits size right h =
    record {
      size = put-length from to now fits ys order size ∙ h.size;
      done = λ i l. by_cases (dec_lt i from) (λ m. put-before from to now fits ys order size i m ∙ h.done i m) (λ o. inner i l (omega arith));
      rest = λ i l. put-behind from to now fits ys order size i l ∙ h.rest i (omega arith);
    }
  where
    inner : (i : ℕ) → i < to → from ≤ i → at (put from to now ys) i ≡ g i
    inner i l o =
        let there : from + (i - from) ≡ i = omega arith in
        rw there at (put_in from to now fits ys order size (i - from) (omega arith) ∙ right (i - from) (omega arith))

-- ---- weights
-- the weight of a street: in a new file a byte behind the mark of HW, which stands at an index
weight-read : (new_form : Bool) (n : ℕ) (file : List ℕ) (from i : ℕ) → i < n
    → at (weights_in new_form n (drop from file)) i ≡ cond new_form (at file (from + (2 + i))) 1
weight-read false n file from i l = get_or-replicate n i 1 0 l
weight-read true n file from i l = get_or-take n (drop 2 (drop from file)) i 0 l ∙ get_or-drop 2 (drop from file) i 0 ∙ get_or-drop from file (2 + i) 0

-- ---- rows
-- zeros stand at each index of a list of them
zeros-at : (k i : ℕ) → at (replicate k 0) i ≡ 0
zeros-at k i = by_cases (dec_lt i k) (get_or-replicate k i 0 0) (λ o. at-past (replicate k 0) i (rw length-replicate (omega arith)))

-- a row is the list and then zeros: at each index the list's number, which is 0 behind its end
row_at : (m : ℕ) (rest : List ℕ) (j : ℕ) → at (row_from m rest) j ≡ at (list_in rest) j
row_at m rest j = by_cases (dec_lt j (length (list_in rest))) inside (λ o. outside (omega arith))
  where
    inside : j < length (list_in rest) → at (row_from m rest) j ≡ at (list_in rest) j
    inside l = get_or-append (list_in rest) (replicate (m - length (list_in rest)) 0) 0 j l

    outside : length (list_in rest) ≤ j → at (row_from m rest) j ≡ at (list_in rest) j
    outside o =
        let r : ℕ = j - length (list_in rest) in
        let there : length (list_in rest) + r ≡ j = omega arith in
        let none : at (row_from m rest) (length (list_in rest) + r) ≡ 0 =
        get_or-append-add (list_in rest) (replicate (m - length (list_in rest)) 0) r 0 ∙ zeros-at (m - length (list_in rest)) r in
        rw there at none ∙ sym (at-past (list_in rest) j o)

module _ (file : List ℕ) (ok : file_refusal file ≡ 0) where
  -- what a file says that is not refused
  read : FileSays file
  read = file-says file ok

  -- the town that it holds
  held : Accepted (town_in file)
  held = town-accepted file ok

  -- its streets and sites are few, and its scores are there
  pub sizes : (streets_in file ≤ most_streets) × (sites_in file ≤ most_sites) × (9 + 2 * sites_in file ≤ length file)
  sizes = (held.few-streets, held.few-sites, omega (arith, read.scores.whole, length-drop 7 file, read.town.whole))

  -- and so are its weights, where it gives any
  weights-there : 9 + 2 * sites_in file + weights_size (form_in file) (streets_in file) ≤ length file
  weights-there =
      omega (arith, weights-whole (streets_in file) (weights_part file) (form_in file) read.weights, length-drop (9 + 2 * sites_in file) file, sizes.2)

  -- the scores are the words behind the mark of SC
  scores-right : (i : ℕ) → i < sites_in file → at (town_in file).scores i ≡ word_at file (9 + 2 * i)
  scores-right i l =
      let low : 7 + (2 + 2 * i) ≡ 9 + 2 * i = omega arith in
      let high : 7 + (2 + 2 * i + 1) ≡ 9 + 2 * i + 1 = omega arith in
      list_of-at (sites_in file) (λ j. word_at (scores_part file) (2 + 2 * j)) i l
      ∙ rw (low, high) at (word_of (get_or-drop 7 file (2 + 2 * i) 0) (get_or-drop 7 file (2 + 2 * i + 1) 0))
    where
      word_of : {a b c d : ℕ} → a ≡ c → b ≡ d → a + 256 * b ≡ c + 256 * d
      word_of e f = rw (e, f) refl

  -- the rows fit their buffer
  rows_fit : streets_in file * sites_in file ≤ most_rows
  rows_fit = mul-le-mul {n₁ = streets_in file} {m₁ = sites_in file} {n₂ = most_streets} {m₂ = most_sites} sizes.0 sizes.1

  module _ (s from : ℕ) (l : s < streets_in file) (there : drop from file ≡ past (streets_part file) s) where
    -- a street's record lies in the file
    record-room : from ≤ length file → from + 5 + at file (from + 4) ≤ length file
    record-room o =
        let size : at (drop from file) 4 ≡ at file (from + 4) = get_or-drop from file 4 0 in
        let whole : 5 + at (drop from file) 4 ≤ length (drop from file) = rw there (read.street s l).whole in
        omega (arith, length-drop from file)

    -- the next one begins behind it
    record-next : drop (from + (5 + at file (from + 4))) file ≡ past (streets_part file) (s + 1)
    record-next = street-past file (streets_part file) (sites_in file) from s there (at file (from + 4)) (sym (get_or-drop from file 4 0))

    -- its row stands in the rows
    row-right : (j : ℕ) → j < sites_in file → at (list_in (drop from file)) j ≡ at (rows_in file) (s * sites_in file + j)
    row-right j k =
        let m : ℕ = sites_in file in
        let cell : at (row_of (town_in file) s) j ≡ at (rows_in file) (s * m + j) =
        get_or-take m (drop (s * m) (rows_in file)) j 0 k ∙ get_or-drop (s * m) (rows_in file) j 0 in
        rw there (sym (row_at m (past (streets_part file) s) j) ∙ sym (ap (λ (row : List ℕ). at row j) (row_read file ok s l)) ∙ cell)

-- ---- the call
-- the rows of the first s streets are filled, and the next record begins at an index
pub record Filling (file before now : List ℕ) (s from : ℕ) : Type 0 where
  pub there : drop from file ≡ past (streets_part file) s
  pub inside : from ≤ length file
  pub filled : Mapped (λ i x. at (rows_in file) i) before now (s * sites_in file)

module _ {file : List ℕ} {n m : ℕ} {new_form : Bool} (known : FileTaken file n m new_form) where
  -- no street's row is filled yet
  filling-none : (before : List ℕ) → Filling file before before 0 (9 + 2 * sites_in file + weights_size (form_in file) (streets_in file))
  unfolding past
  filling-none before =
      record {
        there = refl;
        inside = weights-there file known.ok;
        filled = mapped_end (λ i x. at (rows_in file) i) before before 0 (0 * sites_in file) (omega arith) (omega arith)
            (mapped-none (λ i x. at (rows_in file) i) before);
      }

  pub filling-begin : (before : List ℕ) (size : ℕ) → size ≡ weights_size new_form n → Filling file before before 0 (9 + 2 * m + size)
  filling-begin before size e = rw (e, known.sites, known.form, known.streets) (filling-none before)

  -- the weights of a new file stand in it
  pub few : (n ≤ most_streets) × (m ≤ most_sites)
  few = let z = sizes file known.ok in (omega (arith, known.streets, z.0), omega (arith, known.sites, z.1))

  pub weights-room : new_form ≡ true → 11 + 2 * m + n ≤ length file
  weights-room new =
      let size : weights_size new_form n ≡ 2 + n = ap (λ (b : Bool). weights_size b n) new in
      let there : 9 + 2 * m + weights_size new_form n ≤ length file = rw (known.sites, known.form, known.streets) (weights-there file known.ok) in
      omega arith

  module _ {before now : List ℕ} {s from : ℕ} (l : s < n) (h : Filling file before now s from) where
    -- a street of the file
    street : s < streets_in file
    street = omega (arith, known.streets)

    -- its record lies in the file
    pub record-fits : from + 5 + at file (from + 4) ≤ length file
    record-fits = record-room file known.ok s from street h.there h.inside

    -- and its row in the buffer
    pub row_fits : s * m + m ≤ most_rows
    row_fits =
        rw known.sites (omega (arith, row_within (streets_in file) (sites_in file) s street, rows_fit file known.ok))

    -- one street more
    filling-more : (ys : List ℕ) → length now ≡ most_rows → length ys ≡ sites_in file
        → ((j : ℕ) → j < sites_in file → at ys j ≡ at (list_in (drop from file)) j)
        → Filling file before (put (s * sites_in file) (s * sites_in file + sites_in file) now ys) (s + 1) (from + (5 + at file (from + 4)))
    filling-more ys fits size right =
        let k : ℕ = sites_in file in
        let room : s * k + k ≤ streets_in file * k = row_within (streets_in file) k s street in
        let more = mapped-part (at (rows_in file)) before now ys (s * k) (s * k + k) (omega arith) (omega (arith, rows_fit file known.ok))
        (omega arith) (λ j u. right j (omega arith) ∙ row-right file known.ok s from street h.there j (omega arith)) h.filled in
        record {
          there = record-next file known.ok s from street h.there;
          inside = omega (arith, record-fits);
          filled = mapped_end (λ i x. at (rows_in file) i) before _ (s * k + k) ((s + 1) * k) (omega arith) (omega arith) more;
        }

    pub filling-next : (ys : List ℕ) → length now ≡ most_rows → length ys ≡ m → ((j : ℕ) → j < m → at ys j ≡ at (list_in (drop from file)) j)
        → Filling file before (put (s * m) (s * m + m) now ys) (s + 1) (from + (5 + at file (from + 4)))
    filling-next ys fits size right =
        rw known.sites (filling-more ys fits (omega (arith, known.sites)) (λ j u. right j (omega (arith, known.sites))))

  -- at the end the rows are laid over the buffer
  pub rows-laid : {before now : List ℕ} → length before ≡ most_rows → Mapped (λ i x. at (rows_in file) i) before now (n * m)
      → now ≡ rows_read file before
  rows-laid {before} {now} size h =
      let long : length (rows_in file) ≡ streets_in file * sites_in file = (held file known.ok).rows_fit in
      mapped-laid (rows_in file) before now (n * m) (rw (known.streets, known.sites) (sym long)) (omega (arith, rows_fit file known.ok)) h

  -- and the scores
  pub scores-laid : {before now : List ℕ} → length before ≡ most_sites → Mapped (λ i x. word_at file (9 + 2 * i)) before now m
      → now ≡ scores_read file before
  scores-laid {before} {now} size h =
      let list : List ℕ = (town_in file).scores in
      let long : length list ≡ sites_in file = (held file known.ok).scores-fit in
      let same : Mapped (λ i x. at list i) before now m =
      record { size = h.size; done = λ i l. h.done i l ∙ sym (scores-right file known.ok i (omega (arith, known.sites))); rest = h.rest } in
      mapped-laid list before now m (known.sites ∙ sym long) (omega (arith, (sizes file known.ok).1)) same

  -- and the weights
  pub weights-laid : {before now : List ℕ} → length before ≡ most_streets → Mapped (λ i x. cond new_form (at file (11 + 2 * m + i)) 1) before now n
      → now ≡ weights_read file before
  weights-laid {before} {now} size h =
      let list : List ℕ = (town_in file).weights in
      let long : length list ≡ streets_in file = (held file known.ok).weights-fit in
      let each : (i : ℕ) → i < n → at list i ≡ cond new_form (at file (11 + 2 * m + i)) 1
      = λ i l.
      let place : 9 + 2 * sites_in file + (2 + i) ≡ 11 + 2 * sites_in file + i = omega arith in
      rw (known.form, known.sites)
      (weight-read (form_in file) (streets_in file) file (9 + 2 * sites_in file) i (omega (arith, known.streets))
      ∙ ap (λ (x : ℕ). cond (form_in file) (at file x) 1) place)
      in
      let same : Mapped (λ i x. at list i) before now n = record { size = h.size; done = λ i l. h.done i l ∙ sym (each i l); rest = h.rest } in
      mapped-laid list before now n (known.streets ∙ sym long) (omega (arith, (sizes file known.ok).0)) same

-- ---- one row
-- the list of the record that begins at an index
pub list_of : (file : List ℕ) (from j r : ℕ) → r ≡ at (take (at file (from + 4)) (drop (from + 5) file)) j → r ≡ at (list_in (drop from file)) j
list_of file from j r e = rw (get_or-drop from file 4 0, drop-drop 5 from file) e
