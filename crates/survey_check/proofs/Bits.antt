-- Laws of the bits of sites. Each byte adds at most one to the set bits of a row, and it adds one only where it is a site that no byte
-- before it is: so a row with as many set bits in front as it has sites is sound.
-- Assumes nothing.
use mathlib.Core.Path.{◌≡◌, refl, sym, ap, ap₂, ◌∙◌}
use mathlib.Core.Bool.{Bool, true, false, ◌||◌}
use mathlib.Mathlib.Data.Bool.Basic.{dichotomy}
use mathlib.Core.Logic.{◌≢◌, ◌⊎◌, inl, inr, ⊎_elim, by_cases}
use mathlib.Core.List.{List}
use Prim.Native.Nat.{ℕ, zero, suc, ◌+◌, ◌-◌, ◌*◌, ◌%◌, ◌^◌, ◌≤◌, ◌<◌}
use native.Mathlib.Nat.{eq-zero-or-pos, eq-or-lt_of_le, le_of_suc-le-suc, one-mul}
use native.Mathlib.Decide.{dec_lt, ℕ_discrete}
use native.Mathlib.Numerals.{add-one}
use native.Mathlib.Omega.{arith}
use lib.Bits.{bit_or, or_comm, or_self}
use lib.Count.{ones}
use lib.Dec.{ltb, lit<}
use lib.ListN.{length, take, set, replicate, length-set, length-replicate, get_or-replicate, length-take}
use lib.Pow.{shl_exact}
use lib.Seq.{get_or-set_same, get_or-set_other, get_or-take, length-take-le}
use borrow.Author.Tests.{lt-ltb, le-ltb, ne_eqb}
use Rattle.counting.specs.Words.{◌unless◌, one, sum_of, outside}
use Rattle.counting.specs.Lists.{at, has}
use Rattle.counting.proofs.Refusals.{when-none, unless-yes, unless-none, or_left, or_right, or-neither, within}
use Rattle.counting.proofs.Membership.{has-none, one-not}
use Rattle.counting.proofs.Sums.{at-past, sum_of-same, sum_of-upto, sum_of-even}
use Rattle.survey_check.specs.Bits.{site_bit, SiteBits, bits_of, ranked_count}
use Rattle.survey.specs.Accepted.{SoundRow}
use Rattle.survey_check.proofs.Ones.{or_assoc, ones-or, ones-zero, ones-pow}

-- ---- the bit of a byte
-- a byte has one set bit and is a site of 1 to m, or has none
bit-ones : (m b : ℕ) → (ones (site_bit m b) ≡ 0) ⊎ ((ones (site_bit m b) ≡ 1) × (0 < b) × (b ≤ m))
bit-ones m b = ⊎_elim (λ t. inr (one_set t)) (λ t. inl (none t)) (dichotomy (outside b 1 m))
  where
    none : outside b 1 m ≡ true → ones (site_bit m b) ≡ 0
    none t = ap ones (sym (unless-none (2 ^ (b - 1)) (outside b 1 m) t)) ∙ ones-zero

    one_set : outside b 1 m ≡ false → (ones (site_bit m b) ≡ 1) × (0 < b) × (b ≤ m)
    one_set t =
        let (low, high) = within 1 b 1 m (lit< tt) (sym (when-none 1 (outside b 1 m) t)) in
        (ap ones (sym (unless-yes (2 ^ (b - 1)) (outside b 1 m) t)) ∙ ones-pow (b - 1), low, high)

-- the table of no site
pub bits_none : SiteBits 0 (replicate 256 0)
bits_none = record { size = length-replicate {A = ℕ} 256 0; right = λ b. zeros b ∙ unless-none (2 ^ (b - 1)) (outside b 1 0) (none b) }
  where
    zeros : (b : ℕ) → at (replicate 256 0) b ≡ 0
    zeros b = by_cases (dec_lt b 256) (get_or-replicate 256 b 0 0) (λ h. at-past (replicate 256 0) b (omega (arith, length-replicate {A = ℕ} 256 0)))

    none : (b : ℕ) → outside b 1 0 ≡ true
    none b = ⊎_elim (λ z. or_left (ltb b 1) (ltb 0 b) (lt-ltb b 1 (omega arith))) (λ p. or_right (ltb b 1) (ltb 0 b) (lt-ltb 0 b p)) (eq-zero-or-pos b)

-- the table of one site more
pub bits-more : (m : ℕ) (bits : List ℕ) → m < 64 → SiteBits m bits → SiteBits (m + 1) (set bits (m + 1) (1 * 2 ^ m % 2 ^ 64))
bits-more m bits l h = record { size = simp length-set h.size; right = λ b. by_cases (ℕ_discrete b (m + 1)) (λ e. rw e new) (old b) }
  where
    new : at (set bits (m + 1) (1 * 2 ^ m % 2 ^ 64)) (m + 1) ≡ site_bit (m + 1) (m + 1)
    new =
        let back : m + 1 - 1 ≡ m = omega arith in
        let shifted : 1 * 2 ^ m % 2 ^ 64 ≡ 2 ^ (m + 1 - 1) = rw back (shl_exact 1 m 64 (lit< tt) (omega arith) ∙ one-mul (2 ^ m)) in
        let site : outside (m + 1) 1 (m + 1) ≡ false = or-neither _ _ (le-ltb (m + 1) 1 (omega arith)) (le-ltb (m + 1) (m + 1) (omega arith)) in
        get_or-set_same bits (m + 1) _ 0 (omega (arith, h.size)) ∙ shifted ∙ unless-yes (2 ^ (m + 1 - 1)) (outside (m + 1) 1 (m + 1)) site

    old : (b : ℕ) → b ≢ m + 1 → at (set bits (m + 1) (1 * 2 ^ m % 2 ^ 64)) b ≡ site_bit (m + 1) b
    old b d =
        let above : m < b → ltb m b ≡ ltb (m + 1) b = λ k. lt-ltb m b k ∙ sym (lt-ltb (m + 1) b (omega arith)) in
        let same : ltb m b ≡ ltb (m + 1) b = by_cases (dec_lt m b) above (λ k. le-ltb m b (omega arith) ∙ sym (le-ltb (m + 1) b (omega arith))) in
        get_or-set_other bits (m + 1) b _ 0 d ∙ h.right b ∙ ap (λ (t : Bool). 2 ^ (b - 1) unless (ltb b 1 || t)) same

-- ---- the bits of a row's first bytes
-- none at the start, and one byte more
pub bits-start : (bits row : List ℕ) → 0 ≡ bits_of bits row 0
unfolding bits_of
bits-start bits row = refl

pub bits-next : (bits row : List ℕ) (j all site : ℕ) → all ≡ bits_of bits row j → site ≡ at row j → bit_or all (at bits site) ≡ bits_of bits row (j + 1)
unfolding bits_of
bits-next bits row j all site e h = rw (add-one, e, h)

pub ruleset joined = (bits-start, bits-next)

-- each of these bytes has its bit among them
bits-held : (bits row : List ℕ) (j i : ℕ) → i < j → bit_or (bits_of bits row j) (at bits (at row i)) ≡ bits_of bits row j
unfolding bits_of
bits-held bits row zero i l = absurd (omega arith)
bits-held bits row (suc j) i l =
    let before = bits_of bits row j in
    let last = at bits (at row j) in
    ⊎_elim
    (λ e. ap (λ (x : ℕ). bit_or (bit_or before last) (at bits (at row x))) e ∙ or_assoc before last last ∙ ap (bit_or before) (or_self last))
    (λ k.
    let own = at bits (at row i) in
    or_assoc before last own ∙ ap (bit_or before) (or_comm last own) ∙ sym (or_assoc before own last)
    ∙ ap (λ (x : ℕ). bit_or x last) (bits-held bits row j i k))
    (eq-or-lt_of_le (le_of_suc-le-suc l))

module _ (m : ℕ) (bits row : List ℕ) (table : SiteBits m bits) where
  -- what one byte more adds to the set bits
  byte-ones : (j : ℕ) → (ones (at bits (at row j)) ≡ 0) ⊎ ((ones (at bits (at row j)) ≡ 1) × (0 < at row j) × (at row j ≤ m))
  byte-ones j = rw table.right (bit-ones m (at row j))

  ones-next : (j : ℕ) → ones (bits_of bits row (suc j)) ≤ ones (bits_of bits row j) + ones (at bits (at row j))
  unfolding bits_of
  ones-next j = ones-or (bits_of bits row j) (at bits (at row j))

  -- no more bits are set than there are bytes
  bits-few : (j : ℕ) → ones (bits_of bits row j) ≤ j
  unfolding bits_of
  bits-few zero = omega (arith, ones-zero)
  bits-few (suc j) = ⊎_elim (λ z. omega (arith, ones-next j, bits-few j)) (λ s. omega (arith, ones-next j, bits-few j)) (byte-ones j)

  -- a byte that some byte before it is adds none
  bits-again : (j k : ℕ) → k < j → at row k ≡ at row j → ones (bits_of bits row (suc j)) ≡ ones (bits_of bits row j)
  unfolding bits_of
  bits-again j k l e = ap ones (ap (λ (b : ℕ). bit_or (bits_of bits row j) (at bits b)) (sym e) ∙ bits-held bits row j k l)

  -- where as many are set as there are bytes, each byte is a site of 1 to m that no byte before it is
  bits_full : (j : ℕ) → ones (bits_of bits row j) ≡ j → (i : ℕ) → i < j → (0 < at row i) × (at row i ≤ m) × ((k : ℕ) → k < i → at row k ≢ at row i)
  bits_full zero e i l = absurd (omega arith)
  bits_full (suc j) e i l =
      ⊎_elim (λ z. absurd (omega (arith, ones-next j, bits-few j)))
      (λ s.
      let last : (0 < at row j) × (at row j ≤ m) × ((k : ℕ) → k < j → at row k ≢ at row j) = (s.1, s.2, λ k h q. omega (arith, bits-few j, bits-again j k h q)) in
      ⊎_elim (λ q. rw q last) (bits_full j (omega (arith, ones-next j, bits-few j)) i) (eq-or-lt_of_le (le_of_suc-le-suc l)))
      (byte-ones j)

-- the bits of a list's first bytes are those of the same bytes of the row
bits-take : (bits row : List ℕ) (c j : ℕ) → j ≤ c → bits_of bits (take c row) j ≡ bits_of bits row j
unfolding bits_of
bits-take bits row c zero l = refl
bits-take bits row c (suc j) l = ap₂ (λ (x y : ℕ). bit_or x (at bits y)) (bits-take bits row c j (omega arith)) (get_or-take c row j 0 l)

-- ---- how many bytes of a row are not 0
module _ (row : List ℕ) where
  -- no more than there are bytes
  pub ranked-most : (n : ℕ) → ranked_count row n ≤ n
  ranked-most zero = omega arith
  ranked-most (suc n) = omega (arith, ranked-most n, one-not (ltb 0 (at row n)))

  -- so there are as many bytes in front
  pub ranked-size : (c : ℕ) → c ≡ ranked_count row (length row) → length (take c row) ≡ c
  ranked-size c e = length-take-le c row (omega (arith, ranked-most (length row)))

  -- where the sites in front are all that the row has, what follows is 0
  ranked-rest : (c n : ℕ) → ((i : ℕ) → i < c → 0 < at row i) → ranked_count row n ≡ c → (j : ℕ) → c ≤ j → j < n → at row j ≡ 0
  ranked-rest c n front e j l h = ⊎_elim (λ z. z) (λ p. absurd (omega (arith, one-site j p, all, up c j l, up (suc j) n h))) (eq-zero-or-pos (at row j))
    where
      site : ℕ → ℕ
      site i = one (ltb 0 (at row i))

      one-site : (i : ℕ) → 0 < at row i → site i ≡ 1
      one-site i p = ap one (lt-ltb 0 (at row i) p)

      up : (a b : ℕ) → a ≤ b → sum_of a site ≤ sum_of b site
      up = sum_of-upto site

      all : sum_of c site ≡ c * 1
      all = sum_of-same c site (λ i. 1) (λ i k. one-site i (front i k)) ∙ sum_of-even c 1

pub ruleset tallied = (ranked-most, ranked-most)

-- ---- a row that has as many set bits in front as it has sites
-- a number that none of the first j bytes is does not stand among them
none_before : (row : List ℕ) (j a : ℕ) → ((i : ℕ) → i < j → at row i ≢ a) → has a (take j row) ≡ false
none_before row j a h =
    has-none a (take j row)
    (λ i l. let k : i < j = omega (arith, length-take j row) in ne_eqb (at (take j row) i) a (λ e. h i k (sym (get_or-take j row i 0 k) ∙ e)))

module _ (m : ℕ) (bits row : List ℕ) (table : SiteBits m bits) (c all : ℕ) (counted : c ≡ ranked_count row (length row))
    (joined : all ≡ bits_of bits (take c row) (length (take c row))) (full : ones all ≡ c) where
  front : (i : ℕ) → i < c → (0 < at row i) × (at row i ≤ m) × ((k : ℕ) → k < i → at row k ≢ at row i)
  front =
      let those : all ≡ bits_of bits row c = joined ∙ ap (bits_of bits (take c row)) (ranked-size row c counted) ∙ bits-take bits row c c (omega arith) in
      bits_full m bits row table c (ap ones (sym those) ∙ full)

  rest : (j : ℕ) → c ≤ j → j < length row → at row j ≡ 0
  rest = ranked-rest row c (length row) (λ i l. (front i l).0) (sym counted)

  site-front : (j : ℕ) → j < length row → 0 < at row j → j < c
  site-front j l p = by_cases (dec_lt j c) (λ h. h) (λ h. absurd (omega (arith, rest j (omega arith) l)))

  pub bits-sound : SoundRow m row
  bits-sound =
      record {
        named = λ j l. by_cases (dec_lt j c) (λ h. (front j h).1) (λ h. omega (arith, rest j (omega arith) l));
        closed = λ j l p. none_before row j 0 (λ i h z. omega (arith, (front i (omega (arith, site-front j l p))).0));
        once = λ j l p. none_before row j (at row j) (front j (site-front j l p)).2;
      }
