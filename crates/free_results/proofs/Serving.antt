-- Laws of the loop over a street's row that looks for the first chosen site of its ranked part.
-- Assumes nothing.
use mathlib.Core.Path.{◌≡◌, refl, sym, ap, ◌∙◌}
use mathlib.Core.Bool.{Bool, true, false}
use mathlib.Core.List.{List, [], ◌∷◌}
use Prim.Native.Nat.{ℕ, zero, suc, ◌+◌, ◌≤◌, ◌<◌}
use native.Mathlib.Nat.{le_antisymm}
use native.Mathlib.Numerals.{add-one}
use lib.Dec.{eqb}
use lib.ListN.{length, drop}
use lib.Seq.{drop-cons, drop-length}
use borrow.Author.Tests.{ne_eqb}
use Rattle.counting.specs.Words.{◌when◌, ◌or_else◌, first_nonzero}
use Rattle.counting.specs.Lists.{at}
use Rattle.counting.proofs.Refusals.{or-none, group, or-stop, own-pass, when-yes, when-none}
use Rattle.survey.specs.Rows.{ranked_part}
use Rattle.free_plan.specs.Greedy.{goes_to, chosen_at}

-- the first number apart
first-front : (n : ℕ) (f : ℕ → ℕ) → first_nonzero (suc n) f ≡ f 0 or_else first_nonzero n (λ i. f (suc i))
unfolding first_nonzero ◌or_else◌
first-front zero f = sym (or-none (f 0))
first-front (suc n) f = ap (λ (x : ℕ). x or_else f (suc n)) (first-front n f) ∙ group (f 0) (first_nonzero n (λ i. f (suc i))) (f (suc n))

module _ (chosen : ℕ → Bool) where
  -- a street goes to the first of its list where that is chosen, else where the rest sends it
  goes-front : (a : ℕ) (L : List ℕ) → goes_to chosen (a ∷ L) ≡ (a when chosen a) or_else goes_to chosen L
  goes-front a L = first-front (length L) (chosen_at chosen (a ∷ L))

  -- by an empty list to none
  goes_none : goes_to chosen [] ≡ 0
  unfolding first_nonzero
  goes_none = refl

  module _ (row : List ℕ) (j : ℕ) (so : goes_to chosen (ranked_part row) ≡ goes_to chosen (ranked_part (drop j row))) where
    -- past the end of the row
    pub goes_end : length row ≤ j → j ≤ length row → 0 ≡ goes_to chosen (ranked_part row)
    goes_end a b = sym (so ∙ rw (le_antisymm b a, drop-length) goes_none)

    module _ (l : j < length row) where
      -- at a zero
      pub goes-stop : at row j ≡ 0 → 0 ≡ goes_to chosen (ranked_part row)
      goes-stop z = sym (so ∙ rw (drop-cons row j 0 l, z) goes_none)

      module _ (z : at row j ≡ 0 → ⊥) where
        -- what the site at j decides
        here : goes_to chosen (ranked_part row) ≡ (at row j when chosen (at row j)) or_else goes_to chosen (ranked_part (drop (suc j) row))
        here =
            let site : eqb (at row j) 0 ≡ false = ne_eqb _ _ z in
            so ∙ rw (drop-cons row j 0 l, site) (goes-front (at row j) (ranked_part (drop (suc j) row)))

        -- at a chosen site
        pub goes-found : chosen (at row j) ≡ true → at row j ≡ goes_to chosen (ranked_part row)
        goes-found t = or-stop (at row j) _ _ (when-yes (at row j) _ t) z ∙ sym here

        -- past any other
        pub goes-next : chosen (at row j) ≡ false → goes_to chosen (ranked_part row) ≡ goes_to chosen (ranked_part (drop (j + 1) row))
        goes-next t = here ∙ sym (rw add-one (own-pass _ _ _ (sym (when-none (at row j) _ t)) refl))
