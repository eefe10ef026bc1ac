-- How long the lines are: every text fits a buffer of most_text bytes.
-- Assumes nothing.
use mathlib.Core.List.{List, [], ◌∷◌, ◌++◌}
use Prim.Native.Nat.{ℕ, zero, suc, ◌+◌, ◌*◌, ◌^◌, ◌≤◌, ◌<◌}
use native.Mathlib.Omega.{arith}
use lib.ListN.{length, length-append, length-take, drop}
use Rattle.counting.specs.Bounds.{most_streets, most_sites}
use Rattle.counting.specs.Lists.{at}
use Rattle.counting.specs.Buffers.{joined}
use Rattle.survey.specs.Rows.{row_at, ranked_part, place_of}
use Rattle.survey.proofs.Lists.{place-most, ranked-length}
use Rattle.listing.specs.Listing.{spaced, line, total_word, sites_word, street_word, refused_word, numbers_text, street_line, street_lines, listing}
use Rattle.listing.specs.Listing.{refused_line, most_text}
use Rattle.listing.proofs.Decimals.{decimal-length}

-- n pieces, none longer than x
joined-most : (n x : ℕ) (f : ℕ → List ℕ) → ((i : ℕ) → i < n → length (f i) ≤ x) → length (joined n f) ≤ n * x
unfolding joined
joined-most zero x f h = omega arith
joined-most (suc n) x f h = omega (arith, length-append (joined n f) (f n), h n (omega arith), joined-most n x f (λ i l. h i (omega arith)))

-- every number of a list is below a bound
abbrev Below : ℕ → List ℕ → Type 0
Below bound list = (i : ℕ) → at list i < bound

below_none : (bound : ℕ) → 0 < bound → Below bound []
below_none bound l zero = l
below_none bound l (suc i) = l

below_more : (bound a : ℕ) (list : List ℕ) → a < bound → Below bound list → Below bound (a ∷ list)
below_more bound a list l h zero = l
below_more bound a list l h (suc i) = h i

-- a line of numbers of at most d + 1 digits
line-most : (d : ℕ) (word numbers : List ℕ) → Below (10 ^ suc d) numbers → length (line word numbers) ≤ length word + length numbers * (2 + d) + 1
line-most d word numbers h =
    let texts : List ℕ = numbers_text numbers in
    let most : length texts ≤ length numbers * (2 + d) =
    joined-most (length numbers) (2 + d) (λ i. spaced (at numbers i)) (λ i l. omega (arith, decimal-length d (at numbers i) (h i))) in
    omega (arith, length-append (word ++ texts) (10 ∷ []), length-append word texts)

-- no place is above the number of sites
place-low : (m : ℕ) (rows : List ℕ) (s a : ℕ) → place_of (row_at m rows s) a ≤ m
place-low m rows s a =
    let row : List ℕ = row_at m rows s in
    omega (arith, place-most (ranked_part row) a, ranked-length row, length-take m (drop (s * m) rows))

street-most : (m : ℕ) (rows division : List ℕ) (s : ℕ) → m ≤ most_sites → s < most_streets → at division s < 256 → length (street_line m rows division s) ≤ 19
street-most m rows division s few l byte =
    let place : ℕ = place_of (row_at m rows s) (at division s) in
    line-most 2 street_word (suc s ∷ at division s ∷ place ∷ [])
    (below_more 1000 (suc s) (at division s ∷ place ∷ []) (omega arith)
    (below_more 1000 (at division s) (place ∷ []) (omega arith)
    (below_more 1000 place [] (omega (arith, place-low m rows s (at division s))) (below_none 1000 (omega arith)))))

-- the line of a refusal
pub refused-fits : (x : ℕ) → x < 256 → length (refused_line x) ≤ most_text
refused-fits x l = omega (arith, line-most 2 refused_word (x ∷ []) (below_more 1000 x [] (omega arith) (below_none 1000 (omega arith))))

-- a listing whose sites are bytes and whose total has at most ten digits
pub listing-fits : (m t : ℕ) (rows sites division : List ℕ) → m ≤ most_sites → t < 4294967296
    → length sites ≤ most_sites → Below 256 sites → length division ≤ most_streets → Below 256 division
    → length (listing m rows t sites division) ≤ most_text
listing-fits m t rows sites division few small short bytes fewer sited =
    let first : List ℕ = line total_word (t ∷ []) in
    let second : List ℕ = line sites_word sites in
    let rest : List ℕ = street_lines m rows division in
    let a : length first ≤ 17 = line-most 9 total_word (t ∷ []) (below_more 10000000000 t [] (omega arith) (below_none 10000000000 (omega arith))) in
    let b : length second ≤ 5 + length sites * 4 + 1 = line-most 2 sites_word sites (λ i. omega (arith, bytes i)) in
    let c : length rest ≤ length division * 19 =
    joined-most (length division) 19 (street_line m rows division) (λ s l. street-most m rows division s few (omega arith) (sited s)) in
    omega (arith, length-append (first ++ second) rest, length-append first second)
