-- The first 28,142 bytes of an input, one more than the longest file has, decide what is printed, so that the program reads no more of them.
-- Assumes nothing.
use mathlib.Core.Path.{◌≡◌, refl, sym, ap, ◌∙◌}
use mathlib.Core.Logic.{by_cases}
use mathlib.Core.Bool.{Bool, true, false}
use mathlib.Core.List.{List, [], ◌∷◌}
use Prim.Native.Nat.{ℕ, zero, suc, ◌+◌, ◌-◌, ◌*◌, ◌≤◌, ◌<◌}
use native.Mathlib.Nat.{sub-zero, zero-sub, suc-sub-suc}
use native.Mathlib.Decide.{dec_lt}
use native.Mathlib.Omega.{arith}
use lib.Dec.{ltb, eqb, lit<}
use lib.ListN.{length, take, drop, length-drop}
use lib.Seq.{length-take-le, take_all, take-take, get_or-take}
use borrow.Author.Tests.{lt-ltb, ltb-false}
use Rattle.counting.specs.Bounds.{most_streets, most_sites}
use Rattle.counting.specs.Words.{◌when◌, ◌unless◌, ◌or_else◌, first_nonzero}
use Rattle.counting.specs.Lists.{at}
use Rattle.counting.proofs.Refusals.{or-zero, when-zero, within}
use Rattle.survey_file.specs.Encode.{town_mark, scores_mark, weights_mark, street_mark, end_mark, most_file}
use Rattle.survey_file.specs.Decode.{word_at, short_refusal, mark_refusal, town_fields, scores_in, scores_fields, weights_record, weights_size, list_in, byte_field}
use Rattle.survey_file.specs.Decode.{street_fields, end_fields, past, street_record, streets_and_end, form_in, streets_in, sites_in, filed_in, file_refusal}
use Rattle.survey_file.proofs.Joined.{joined_same}
use Rattle.survey_file.proofs.Bytes.{Bytes}
use Rattle.survey_file.proofs.Tries.{short-right}
use Rattle.survey_file.proofs.Accepting.{town-says, street-says}
use Rattle.survey_file.proofs.WrittenBack.{encode-decode, town-accepted}
use Rattle.survey_file.proofs.Lengths.{size-most, encode-most}
use Rattle.printing.specs.Texts.{unless_refused, printed}

-- the second of two tries counts only where the first refuses nothing
or_same : (a b c : ℕ) → (a ≡ 0 → b ≡ c) → a or_else b ≡ a or_else c
unfolding ◌or_else◌
or_same zero b c h = h refl
or_same (suc a) b c h = refl

-- and of many each only where those before refuse nothing
first-until : (n : ℕ) (f g : ℕ → ℕ) → ((i : ℕ) → i < n → first_nonzero i g ≡ 0 → f i ≡ g i) → first_nonzero n f ≡ first_nonzero n g
unfolding first_nonzero
first-until zero f g h = refl
first-until (suc n) f g h =
    ap (λ (x : ℕ). x or_else f n) (first-until n f g (λ i l. h i (omega arith))) ∙ or_same (first_nonzero n g) (f n) (g n) (h n (omega arith))

drop-take : (a k : ℕ) (list : List ℕ) → drop a (take k list) ≡ take (k - a) (drop a list)
drop-take zero k list = rw (sub-zero k)
drop-take (suc a) zero list = rw (zero-sub (suc a))
drop-take (suc a) (suc k) [] = sym (take_all (suc k - suc a) [] (omega arith))
drop-take (suc a) (suc k) (x ∷ list) = rw (suc-sub-suc k a) (drop-take a k list)

-- the tries of the records TN or TW, SC and EN
abbrev town_tries : List ℕ → ℕ
town_tries rest = mark_refusal (town_mark (form_in rest)) rest or_else town_fields rest

abbrev scores_tries : ℕ → List ℕ → ℕ
scores_tries m rest = mark_refusal scores_mark rest or_else scores_fields m rest

abbrev end_tries : List ℕ → ℕ
end_tries rest = mark_refusal end_mark rest or_else end_fields rest

-- ---- records of which the first k bytes are looked at
module _ (k : ℕ) (rest : List ℕ) (long : k ≤ length rest) where
  same_at : (i : ℕ) → i < k → at (take k rest) i ≡ at rest i
  same_at i l = get_or-take k rest i 0 l

  same_word : (i : ℕ) → i + 1 < k → word_at (take k rest) i ≡ word_at rest i
  same_word i l = rw (same_at i (omega arith), same_at (i + 1) l)

  same-short : (size : ℕ) → size ≤ k → short_refusal (take k rest) size ≡ short_refusal rest size
  same-short size l =
      short-right (take k rest) size (omega (arith, length-take-le k rest long)) ∙ sym (short-right rest size (omega arith))

  same-mark : (due : ℕ) → 2 ≤ k → mark_refusal due (take k rest) ≡ mark_refusal due rest
  same-mark due l = rw (same-short 2 l, same_word 0 (omega arith))

  same-form : 2 ≤ k → form_in (take k rest) ≡ form_in rest
  same-form l = ap (λ (x : ℕ). eqb x (town_mark true)) (same_word 0 (omega arith))

  same-town : 7 ≤ k → town_fields (take k rest) ≡ town_fields rest
  same-town l = rw (same-short 7 l, same_word 2 (omega arith), same_at 4 (omega arith), same_at 5 (omega arith), same_at 6 (omega arith))

  same-scores : (m : ℕ) → 2 + 2 * m ≤ k → scores_fields m (take k rest) ≡ scores_fields m rest
  same-scores m l =
      let score : List ℕ → ℕ → List ℕ = λ bytes i. word_at bytes (2 + 2 * i) ∷ [] in
      let scores : scores_in m (take k rest) ≡ scores_in m rest =
      joined_same m (score (take k rest)) (score rest) (λ i h. ap (λ (x : ℕ). x ∷ []) (same_word (2 + 2 * i) (omega arith))) in
      rw (same-short (2 + 2 * m) l, scores)

  same-weights : (new_form : Bool) (n : ℕ) → 2 + n ≤ k → weights_record new_form n (take k rest) ≡ weights_record new_form n rest
  same-weights false n l = refl
  same-weights true n l =
      let weights : take n (drop 2 (take k rest)) ≡ take n (drop 2 rest) = rw (drop-take 2 k rest) (take-take n (k - 2) (drop 2 rest) (omega arith)) in
      rw (same-mark weights_mark (omega arith), same-short (2 + n) l, weights)

  same-list : 5 + at rest 4 ≤ k → take (at rest 4) (drop 5 (take k rest)) ≡ list_in rest
  same-list l = rw (drop-take 5 k rest) (take-take (at rest 4) (k - 5) (drop 5 rest) (omega arith))

  same-street : (m number : ℕ) → 5 + m ≤ k → street_fields m number (take k rest) ≡ street_fields m number rest
  same-street m number l =
      let bytes : List ℕ → ℕ = λ list. first_nonzero (length list) (byte_field m list) in
      let x : ℕ = at rest 4 in
      rw (same-short 5 (omega arith), same_word 2 (omega arith), same_at 4 (omega arith))
      (or_same (short_refusal rest 5) _ _ (λ a.
      or_same (14 unless eqb (word_at rest 2) number) _ _ (λ b.
      or_same (15 when ltb m x) _ _ (λ c.
      let few : x ≤ m = ltb-false m x (when-zero 15 (ltb m x) (lit< tt) c) in
      rw (same-short (5 + x) (omega arith)) (ap (λ (y : ℕ). short_refusal rest (5 + x) or_else y) (ap bytes (same-list (omega arith))))))))

-- ---- the street records
-- the bytes of the longest street record
abbrev longest : ℕ
longest = 5 + most_sites

-- what is left of the first `size` bytes once i records are read
record Left (streets : List ℕ) (size i : ℕ) : Type 0 where
  left : ℕ
  cut : past (take size streets) i ≡ take left (past streets i)
  there : left ≤ length (past streets i)
  enough : size ≤ left + i * longest

module _ (m n size : ℕ) (streets : List ℕ) (few : m ≤ most_sites) (room : n * longest + 3 ≤ size) (long : size ≤ length streets) where
  left-first : Left streets size 0
  unfolding past
  left-first = record { left = size; cut = refl; there = long; enough = omega arith }

  left-next : (i : ℕ) → i < n → at (past streets i) 4 ≤ m → Left streets size i → Left streets size (suc i)
  unfolding past
  left-next i l short w =
      let rest : List ℕ = past streets i in
      let x : ℕ = 5 + at rest 4 in
      let much : longest + 3 ≤ w.left = omega (arith, w.enough) in
      let same : at (past (take size streets) i) 4 ≡ at rest 4 = rw w.cut (same_at w.left rest w.there 4 (omega arith)) in
      record {
        left = w.left - x;
        cut = rw (same, w.cut) (drop-take x w.left rest);
        there = omega (arith, length-drop x rest, w.there);
        enough = omega (arith, w.enough);
      }

  left-all : (i : ℕ) → i ≤ n → first_nonzero i (street_record m streets) ≡ 0 → Left streets size i
  unfolding first_nonzero
  left-all zero l e = left-first
  left-all (suc i) l e =
      let (before, this) = or-zero (first_nonzero i (street_record m streets)) (street_record m streets i) e in
      left-next i l (street-says m (suc i) (past streets i) this).short (left-all i (omega arith) before)

  same-record : (i : ℕ) → i < n → first_nonzero i (street_record m streets) ≡ 0 → street_record m (take size streets) i ≡ street_record m streets i
  same-record i l e =
      let w = left-all i (omega arith) e in
      let much : longest + 3 ≤ w.left = omega (arith, w.enough) in
      let rest : List ℕ = past streets i in
      rw (w.cut, same-mark w.left rest w.there street_mark (omega arith), same-street w.left rest w.there m (suc i) (omega arith))

  same_end : first_nonzero n (street_record m streets) ≡ 0 → end_tries (past (take size streets) n) ≡ end_tries (past streets n)
  same_end e =
      let w = left-all n (omega arith) e in
      let much : 3 ≤ w.left = omega (arith, w.enough) in
      let rest : List ℕ = past streets n in
      let size : length (take w.left rest) ≡ w.left = length-take-le w.left rest w.there in
      let more : ltb 2 (length (take w.left rest)) ≡ ltb 2 (length rest) =
      lt-ltb 2 (length (take w.left rest)) (omega arith) ∙ sym (lt-ltb 2 (length rest) (omega (arith, w.there))) in
      rw (w.cut, same-mark w.left rest w.there end_mark (omega arith), more)

  same-streets : streets_and_end n m (take size streets) ≡ streets_and_end n m streets
  same-streets =
      ap (λ (x : ℕ). x or_else end_tries (past (take size streets) n))
      (first-until n (street_record m (take size streets)) (street_record m streets) same-record)
      ∙ or_same (first_nonzero n (street_record m streets)) _ _ same_end

-- ---- the file
module _ (most : ℕ) (file : List ℕ) (much : most_file < most) (long : most ≤ length file) where
  same-town-record : town_tries (take most file) ≡ town_tries file
  same-town-record =
      rw (same-form most file long (omega arith), same-mark most file long (town_mark (form_in file)) (omega arith), same-town most file long (omega arith))

  same-table : (m : ℕ) → m ≤ most_sites → scores_tries m (drop 7 (take most file)) ≡ scores_tries m (drop 7 file)
  same-table m few =
      let k : ℕ = most - 7 in
      let there : k ≤ length (drop 7 file) = omega (arith, length-drop 7 file) in
      rw (drop-take 7 most file, same-mark k (drop 7 file) there scores_mark (omega arith), same-scores k (drop 7 file) there m (omega arith))

  same-each : (new_form : Bool) (n m : ℕ) → n ≤ most_streets → m ≤ most_sites
      → weights_record new_form n (drop (9 + 2 * m) (take most file)) ≡ weights_record new_form n (drop (9 + 2 * m) file)
  same-each new_form n m fewer few =
      let k : ℕ = most - (9 + 2 * m) in
      rw (drop-take (9 + 2 * m) most file)
      (same-weights k (drop (9 + 2 * m) file) (omega (arith, length-drop (9 + 2 * m) file)) new_form n (omega arith))

  same_rest : (n m size : ℕ) → n ≤ most_streets → m ≤ most_sites → size ≤ 2 + n
      → streets_and_end n m (drop (9 + 2 * m + size) (take most file)) ≡ streets_and_end n m (drop (9 + 2 * m + size) file)
  same_rest n m size fewer few small =
      let from : ℕ = 9 + 2 * m + size in
      rw (drop-take from most file) (same-streets m n (most - from) (drop from file) few (omega arith) (omega (arith, length-drop from file)))

  same-file : file_refusal (take most file) ≡ file_refusal file
  unfolding file_refusal
  same-file =
      rw (same-town-record, same-form most file long (omega arith), same_at most file long 4 (omega arith), same_word most file long 2 (omega arith))
      (or_same (town_tries file) _ _ (λ e.
      let town = town-says file e in
      let n : ℕ = streets_in file in
      let few : sites_in file ≤ most_sites = (within 2 (sites_in file) 1 most_sites (lit< tt) town.sites).1 in
      let fewer : n ≤ most_streets = (within 1 n 1 most_streets (lit< tt) town.streets).1 in
      rw (
        same-table (sites_in file) few,
        same-each (form_in file) n (sites_in file) fewer few,
        same_rest n (sites_in file) (weights_size (form_in file) n) fewer few (size-most (form_in file) n),
      )))

-- a file that is not refused is at most as long as the longest
accepted-short : (file : List ℕ) → Bytes file → file_refusal file ≡ 0 → length file ≤ most_file
accepted-short file bytes ok =
    omega (
      arith,
      encode-most (filed_in file) (town-accepted file ok),
      ap length (encode-decode file ok bytes),
    )

-- where there is a refusal it alone is printed
refused-same : (x : ℕ) (text other : List ℕ) → (x ≡ 0 → ⊥) → unless_refused x text ≡ unless_refused x other
refused-same zero text other h = absurd (h refl)
refused-same (suc x) text other h = refl

pub enough : (most : ℕ) (input : List ℕ) → most_file < most → Bytes input → printed (take most input) ≡ printed input
unfolding printed
enough most input much bytes =
    by_cases (dec_lt most (length input))
    (λ l. rw (same-file most input much (omega arith)) (refused-same (file_refusal input) _ _ (λ e. let s = accepted-short input bytes e in omega arith)))
    (λ h. ap printed (take_all most input (omega arith)))
