-- What `run` reads decides what is printed for the whole input, and what it writes is that text.
-- Assumes nothing.
use Rattle.std.proofs.Common.{◌≡◌, ℕ, ◌+◌, ◌<◌, ◌≤◌, List, ◌++◌, None, Some, Option, All, IfSome, length, take, sym, ap, ◌∙◌, subst, arith}
use Rattle.std.proofs.lemmas.List.{get_or_past, append-nil, length-take-le}
use Rattle.std.proofs.lemmas.List.Elements.{All-get_or}
use Rattle.std.specs.Io.KnownBytes.{Appends, Consumes, IsAtEnd}
use mathlib.Core.Logic.{by_cases}
use native.Mathlib.Decide.{dec_lt}
use lib.ListN.{drop}
use lib.Seq.{take-append-le, take_all}
use Rattle.counting.specs.Buffers.{laid, Written}
use Rattle.survey_file.specs.Encode.{most_file}
use Rattle.survey_file.proofs.Bytes.{Bytes}
use Rattle.printing.specs.Texts.{printed}
use Rattle.plan.specs.Program.{PrintsFile}
use Rattle.printing.proofs.Enough.{enough}

-- bytes, each of which is below 256
bytes_of : (list : List ℕ) → All (λ x. x < 256) list → Bytes list
bytes_of list all i =
    by_cases (dec_lt i (length list)) (λ l. All-get_or (λ x. x < 256) list i 0 l all) (λ h. subst (λ x. x < 256) (sym (get_or_past list i 0 (omega arith))) (omega arith))

-- the bytes that were read, of which there are fewer than fit only at the end of the input, are printed as the whole input
read_decide : (a b : Option (List ℕ)) (buffer : List ℕ) (size : ℕ) → most_file < length buffer → size ≤ length buffer
    → Consumes a b (take size buffer) → (size < length buffer → IsAtEnd b) → IfSome a (λ file. All (λ x. x < 256) file → printed (take size buffer) ≡ printed file)
read_decide None b buffer size much fits read end = tt
read_decide (Some file) None buffer size much fits read end = absurd read
read_decide (Some file) (Some left) buffer size much fits read end =
    λ all. by_cases (dec_lt size (length buffer))
    (λ l. ap printed (sym (read ∙ ap (λ y. take size buffer ++ y) (end l) ∙ append-nil (take size buffer))))
    (λ h.
    let long : length buffer ≤ length (take size buffer) = omega (arith, length-take-le size buffer fits) in
    let whole : take (length buffer) file ≡ take size buffer =
    ap (take (length buffer)) read ∙ take-append-le (length buffer) (take size buffer) left long ∙ take_all (length buffer) (take size buffer) (omega (arith, length-take-le size buffer fits)) in
    ap printed (sym whole) ∙ enough (length buffer) file much (bytes_of file all))

-- a text that was written at a buffer's front is the buffer up to its end
pub text_at_front : (before bytes after : List ℕ) (end : ℕ) → Written before 0 bytes after end → take end after ≡ bytes
unfolding laid
text_at_front before bytes after end w =
    let long : end ≡ length bytes = omega (arith, w.behind) in
    ap (λ n. take n after) long ∙ ap (take (length bytes)) w.right ∙ take-append-le (length bytes) bytes (drop (0 + length bytes) before) (omega arith)
    ∙ take_all (length bytes) bytes (omega arith)

-- the text of what was read is that of the whole input
pub prints_file : (a b old new : Option (List ℕ)) (buffer : List ℕ) (size : ℕ) → most_file < length buffer → size ≤ length buffer
    → Consumes a b (take size buffer) → (size < length buffer → IsAtEnd b) → Appends old new (printed (take size buffer)) → PrintsFile a old new
prints_file None b old new buffer size much fits read end wrote = tt
prints_file (Some file) b old new buffer size much fits read end wrote =
    λ all. subst (Appends old new) (read_decide (Some file) b buffer size much fits read end all) wrote
