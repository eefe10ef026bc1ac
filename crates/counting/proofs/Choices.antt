-- Laws of plans: a list of so many different sites of 1 to m.
-- Assumes nothing.
use mathlib.Core.Path.{◌≡◌, refl, sym}
use mathlib.Core.Bool.{false, true≢false}
use mathlib.Core.Logic.{⊎_elim}
use mathlib.Core.List.{List, [], ◌∷◌, ◌++◌}
use Prim.Native.Nat.{ℕ, suc, ◌≤◌, ◌<◌}
use native.Mathlib.Omega.{arith}
use lib.ListN.{length-append}
use Rattle.counting.specs.Lists.{has}
use Rattle.counting.specs.Sites.{Choice}
use Rattle.counting.proofs.Membership.{has_last, distinct-last}

-- no site is a plan of none
pub plan-none : {m : ℕ} → Choice m 0 []
plan-none = record { sites = λ a h. absurd (true≢false (sym h)); apart = refl; size = refl }

-- a plan with a new site behind it is a plan
pub plan-add : {m i : ℕ} {S : List ℕ} → Choice m i S → (a : ℕ) → 0 < a → a ≤ m → has a S ≡ false → Choice m (suc i) (S ++ (a ∷ []))
plan-add {S = S} p a low high new =
    record {
      sites = λ b h. ⊎_elim (p.sites b) (λ e. rw e (low, high)) (has_last b a S h);
      apart = distinct-last a S p.apart new;
      size = omega (arith, length-append S (a ∷ []), p.size);
    }
