-- Laws of a list that is filled from the front, one store a turn.
-- Assumes nothing.
use mathlib.Core.Path.{◌≡◌, refl, sym, ap, ◌∙◌}
use mathlib.Core.List.{List, [], ◌∷◌, map}
use Prim.Native.Nat.{ℕ, zero, suc, ◌+◌, ◌≤◌, ◌<◌}
use native.Mathlib.Nat.{le_antisymm, le_of_suc-le-suc}
use native.Mathlib.Omega.{arith}
use borrow.Author.Count.{below_more}
use lib.ListN.{length, set, length-set, length-map}
use lib.Seq.{get_or-set_same, get_or-set_other, ext_get_or}
use Rattle.counting.specs.Lists.{at}
use Rattle.counting.specs.Buffers.{Mapped, list_of}
use Rattle.counting.proofs.Sums.{list_of-length, list_of-at}

-- nothing is stored yet
pub mapped-none : (f : ℕ → ℕ → ℕ) (before : List ℕ) → Mapped f before before 0
mapped-none f before = record { size = refl; done = λ i l. absurd (omega arith); rest = λ i l. refl }

-- one store more
pub mapped-more : (f : ℕ → ℕ → ℕ) (before now : List ℕ) (i x : ℕ) → i < length before → Mapped f before now i → x ≡ f i (at now i) → Mapped f before (set now i x) (i + 1)
mapped-more f before now i x l h e =
    record {
      size = simp length-set h.size;
      done = below_more (λ j. at (set now i x) j ≡ f j (at before j)) i
          (λ j lj. get_or-set_other now i j x 0 (λ q. omega arith) ∙ h.done j lj)
          (get_or-set_same now i x 0 (omega (arith, h.size)) ∙ e ∙ ap (λ (y : ℕ). f i y) (h.rest i (omega arith)));
      rest = λ j lj. get_or-set_other now i j x 0 (λ q. omega arith) ∙ h.rest j (omega arith);
    }

-- the loop has come to its end
pub mapped_end : (f : ℕ → ℕ → ℕ) (before now : List ℕ) (i n : ℕ) → n ≤ i → i ≤ n → Mapped f before now i → Mapped f before now n
mapped_end f before now i n a b h = rw (le_antisymm b a) at h

-- a list that is filled to its end with the numbers of a function is the list of them
pub mapped-list_of : (g : ℕ → ℕ) (before now : List ℕ) (n : ℕ) → n ≡ length before → Mapped (λ i x. g i) before now n → now ≡ list_of n g
mapped-list_of g before now n e h =
    ext_get_or 0 now (list_of n g) (h.size ∙ sym e ∙ sym (list_of-length n g))
    (λ i l. let less : i < n = omega (arith, h.size) in h.done i less ∙ sym (list_of-at n g i less))

-- what stands in a list of which each number has become f of what it was
map_at : (f : ℕ → ℕ) (list : List ℕ) (i : ℕ) → i < length list → at (map f list) i ≡ f (at list i)
map_at f [] i l = absurd (omega arith)
map_at f (a ∷ list) zero l = refl
map_at f (a ∷ list) (suc i) l = map_at f list i (le_of_suc-le-suc l)

-- a list of which a loop has made each number f of what it was
pub mapped-map : (f : ℕ → ℕ) (before now : List ℕ) (n : ℕ) → n ≡ length before → Mapped (λ i x. f x) before now n → now ≡ map f before
mapped-map f before now n e h =
    ext_get_or 0 now (map f before) (h.size ∙ sym (length-map before f))
    (λ i l. let less : i < n = omega (arith, h.size) in h.done i less ∙ sym (map_at f before i (omega arith)))
