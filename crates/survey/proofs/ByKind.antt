-- What goes by the kind is the one of two that is the kind's.
-- Assumes nothing.
use mathlib.Core.Path.{◌≡◌, refl, sym, ◌∙◌}
use Prim.Native.Nat.{ℕ, zero, suc}
use native.Mathlib.Nat.{suc-ne-zero}
use Rattle.survey.specs.ByKind.{by_kind}

-- a balanced plan is not a free one
pub kind-one : {kind : ℕ} → kind ≡ 1 → kind ≡ 0 → ⊥
kind-one one z = suc-ne-zero 0 (sym one ∙ z)

module _ {A : Type 0} (free balanced : A) where
  pub kind-free : (kind : ℕ) → kind ≡ 0 → by_kind kind free balanced ≡ free
  kind-free zero z = refl
  kind-free (suc kind) z = absurd (suc-ne-zero kind z)

  pub kind-balanced : (kind : ℕ) → (kind ≡ 0 → ⊥) → by_kind kind free balanced ≡ balanced
  kind-balanced zero h = absurd (h refl)
  kind-balanced (suc kind) h = refl
