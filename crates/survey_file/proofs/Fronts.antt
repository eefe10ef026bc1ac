-- Each record of an accepted file is its fields written again, and behind it stands the rest of the file.
-- Assumes nothing.
use mathlib.Core.Path.{◌≡◌, refl, sym, ap, ◌∙◌}
use mathlib.Core.List.{List, ◌∷◌, ◌++◌, append_assoc}
use Prim.Native.Nat.{ℕ, zero, suc, ◌+◌, ◌*◌, ◌≤◌, ◌<◌}
use native.Mathlib.Omega.{arith}
use lib.ListN.{length, drop, length-drop, take-append-drop, drop_of_length-le}
use lib.Seq.{length-take-le, drop-cons, drop-drop, get_or-drop}
use Rattle.counting.specs.Lists.{at}
use Rattle.counting.specs.Buffers.{joined}
use Rattle.counting.proofs.Sums.{list_of-at}
use Rattle.survey_file.specs.Encode.{town_mark, scores_mark, street_mark, end_mark, word, town_bytes, scores_bytes, list_bytes}
use Rattle.survey_file.specs.Decode.{word_at, scores_in, list_in, past, form_in, streets_in, sites_in, chosen_in, kind_in, scores_part}
use Rattle.survey_file.proofs.Joined.{joined_same}
use Rattle.survey_file.proofs.Bytes.{Bytes, word-front}
use Rattle.survey_file.proofs.Accepting.{TownRead, ScoresRead, StreetRead, EndRead}

-- the bytes behind an index are bytes
pub drop-bytes : (list : List ℕ) (i : ℕ) → Bytes list → Bytes (drop i list)
drop-bytes list i h j = rw (get_or-drop i list j 0) (h (i + j))

-- and so are those behind i street records
pub past_bytes : (streets : List ℕ) (i : ℕ) → Bytes streets → Bytes (past streets i)
unfolding past
past_bytes streets zero h = h
past_bytes streets (suc i) h = drop-bytes (past streets i) (5 + at (past streets i) 4) (past_bytes streets i h)

-- a record begins with its mark
mark-front : (rest : List ℕ) (due : ℕ) → Bytes rest → 2 ≤ length rest → word_at rest 0 ≡ due → rest ≡ word due ++ drop 2 rest
mark-front rest due bytes room e = word-front rest 0 bytes room ∙ ap (λ (x : ℕ). word x ++ drop 2 rest) e

-- TN or TW is the town's record written again
pub town-front : (file : List ℕ) → Bytes file → TownRead file
    → file ≡ town_bytes (form_in file) (streets_in file) (sites_in file) (chosen_in file) (kind_in file) ++ scores_part file
town-front file bytes ok =
    let room : 7 ≤ length file = ok.whole in
    let last : drop 6 file ≡ at file 6 ∷ drop 7 file = drop-cons file 6 0 room in
    let two : drop 5 file ≡ at file 5 ∷ at file 6 ∷ drop 7 file = drop-cons file 5 0 (omega arith) ∙ ap (λ (x : List ℕ). at file 5 ∷ x) last in
    let three : drop 4 file ≡ at file 4 ∷ at file 5 ∷ at file 6 ∷ drop 7 file = drop-cons file 4 0 (omega arith) ∙ ap (λ (x : List ℕ). at file 4 ∷ x) two in
    let mark : List ℕ = word (town_mark (form_in file)) in
    mark-front file (town_mark (form_in file)) bytes (omega arith) ok.marked ∙ ap (λ (x : List ℕ). mark ++ x) (word-front file 2 bytes (omega arith))
    ∙ ap (λ (x : List ℕ). mark ++ (word (streets_in file) ++ x)) three

-- the first i numbers behind the mark SC
words-front : (rest : List ℕ) → Bytes rest → (i : ℕ) → 2 + 2 * i ≤ length rest
    → drop 2 rest ≡ joined i (λ j. word (word_at rest (2 + 2 * j))) ++ drop (2 + 2 * i) rest
unfolding joined
words-front rest bytes zero room = refl
words-front rest bytes (suc i) room =
    let words : ℕ → List ℕ = λ j. word (word_at rest (2 + 2 * j)) in
    let next : 2 + 2 * i + 2 ≡ 2 + 2 * suc i = omega arith in
    words-front rest bytes i (omega arith) ∙ ap (λ (x : List ℕ). joined i words ++ x) (word-front rest (2 + 2 * i) bytes (omega arith))
    ∙ sym (append_assoc (joined i words) (words i) (drop (2 + 2 * i + 2) rest)) ∙ ap (λ (x : ℕ). joined i words ++ words i ++ drop x rest) next

-- SC is the scores' record written again
pub scores-front : (m : ℕ) (rest : List ℕ) → Bytes rest → ScoresRead m rest → rest ≡ scores_bytes m (scores_in m rest) ++ drop (2 + 2 * m) rest
scores-front m rest bytes ok =
    let words : ℕ → List ℕ = λ j. word (word_at rest (2 + 2 * j)) in
    let again : ℕ → List ℕ = λ j. word (at (scores_in m rest) j) in
    let room : 2 + 2 * m ≤ length rest = ok.whole in
    let same : joined m words ≡ joined m again =
    joined_same m words again (λ j l. ap (λ (x : ℕ). word x) (sym (list_of-at m (λ i. word_at rest (2 + 2 * i)) j l))) in
    mark-front rest scores_mark bytes (omega arith) ok.marked ∙ ap (λ (x : List ℕ). word scores_mark ++ x) (words-front rest bytes m room)
    ∙ ap (λ (x : List ℕ). word scores_mark ++ (x ++ drop (2 + 2 * m) rest)) same

-- ST
module _ (m number : ℕ) (rest : List ℕ) (ok : StreetRead m number rest) where
  -- the list is as long as its length says
  pub list-size : length (list_in rest) ≡ at rest 4
  list-size = length-take-le (at rest 4) (drop 5 rest) (omega (arith, length-drop 5 rest, ok.whole))

  -- the record is the list's record written again
  street-front : Bytes rest → rest ≡ list_bytes number (list_in rest) ++ drop (5 + at rest 4) rest
  street-front bytes =
      let room : 5 + at rest 4 ≤ length rest = ok.whole in
      let behind : List ℕ = drop (5 + at rest 4) rest in
      let list : drop 5 rest ≡ list_in rest ++ behind =
      sym (take-append-drop (at rest 4) (drop 5 rest)) ∙ ap (λ (x : List ℕ). list_in rest ++ x) (drop-drop (at rest 4) 5 rest) in
      let sized : drop 4 rest ≡ length (list_in rest) ∷ (list_in rest ++ behind) =
      drop-cons rest 4 0 (omega arith) ∙ ap (λ (x : List ℕ). at rest 4 ∷ x) list ∙ ap (λ (x : ℕ). x ∷ (list_in rest ++ behind)) (sym list-size) in
      mark-front rest street_mark bytes (omega arith) ok.marked ∙ ap (λ (x : List ℕ). word street_mark ++ x) (word-front rest 2 bytes (omega arith))
      ∙ ap (λ (x : ℕ). word street_mark ++ (word x ++ drop 4 rest)) ok.numbered
      ∙ ap (λ (x : List ℕ). word street_mark ++ (word number ++ x)) sized

-- EN is the end written again
pub end-front : (rest : List ℕ) → Bytes rest → EndRead rest → rest ≡ word end_mark
end-front rest bytes ok =
    mark-front rest end_mark bytes ok.whole ok.marked ∙ ap (λ (x : List ℕ). word end_mark ++ x) (drop_of_length-le rest ok.last)

-- the street records one behind the other
pub streets-front : (n m : ℕ) (streets : List ℕ) → Bytes streets → ((i : ℕ) → i < n → StreetRead m (suc i) (past streets i)) →
    (i : ℕ) → i ≤ n → streets ≡ joined i (λ j. list_bytes (suc j) (list_in (past streets j))) ++ past streets i
unfolding joined past
streets-front n m streets bytes ok zero l = refl
streets-front n m streets bytes ok (suc i) l =
    let lists : ℕ → List ℕ = λ j. list_bytes (suc j) (list_in (past streets j)) in
    let rest : List ℕ = past streets i in
    streets-front n m streets bytes ok i (omega arith)
    ∙ ap (λ (x : List ℕ). joined i lists ++ x) (street-front m (suc i) rest (ok i l) (past_bytes streets i bytes))
    ∙ sym (append_assoc (joined i lists) (lists i) (drop (5 + at rest 4) rest))
