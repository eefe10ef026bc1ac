-- Laws of the table of flags: it starts with none set, and a byte more in the list is a flag more.
-- Assumes nothing.
use mathlib.Core.Path.{◌≡◌, sym, ap, ◌∙◌}
use mathlib.Core.Bool.{Bool, true, false, ◌||◌, or-false, or-true}
use mathlib.Core.List.{List, [], ◌∷◌, ◌++◌}
use Prim.Native.Nat.{ℕ, ◌<◌}
use native.Mathlib.Omega.{arith}
use native.Mathlib.Decide.{ℕ_discrete}
use lib.Dec.{eqb}
use lib.ListN.{length, get_or, set, replicate, length-set, length-replicate, get_or-replicate}
use lib.Seq.{get_or-set_same, get_or-set_other}
use borrow.Author.Tests.{eq-eqb, ne_eqb}
use Rattle.counting.specs.Lists.{has}
use Rattle.counting.specs.Flags.{Flags}
use Rattle.counting.proofs.Membership.{has-append}

-- no flag is set, and the list is empty
pub flags-none : Flags (replicate 256 false) []
flags-none = record { size = length-replicate 256 false; right = λ x l. get_or-replicate 256 x false false l }

-- a byte behind the list sets its flag
pub flags-more : (flags : List Bool) (list : List ℕ) (b : ℕ) → b < 256 → Flags flags list → Flags (set flags b true) (list ++ (b ∷ []))
flags-more flags list b l h =
    record {
      size = simp length-set h.size;
      right = λ x small. flag x (h.right x small) (ℕ_discrete x b) ∙ sym (has-append x list (b ∷ []) ∙ ap (λ (t : Bool). has x list || t) (or-false (eqb x b)));
    }
  where
    flag : (x : ℕ) → get_or flags x false ≡ has x list → Dec (x ≡ b) → get_or (set flags b true) x false ≡ has x list || eqb x b
    flag x e (yes q) =
        let within : b < length flags = omega (arith, h.size) in
        let t : eqb x b ≡ true = eq-eqb x b q in
        let s : get_or (set flags b true) x false ≡ true = rw q (get_or-set_same flags b true false within) in
        s ∙ sym (rw t (or-true (has x list)))
    flag x e (no q) =
        let t : eqb x b ≡ false = ne_eqb x b q in
        get_or-set_other flags b x true false q ∙ e ∙ sym (rw t (or-false (has x list)))
