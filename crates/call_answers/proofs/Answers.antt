-- Laws of the answers, from the number that a call's tries gave.
-- Assumes nothing.
use mathlib.Core.Path.{◌≡◌, refl, sym, ap, ◌∙◌}
use mathlib.Core.Bool.{true}
use mathlib.Core.List.{List}
use Prim.Native.Nat.{ℕ, zero, suc}
use native.Mathlib.Nat.{suc-ne-zero}
use lib.Dec.{eqb}
use borrow.Author.Tests.{eq-eqb, ne_eqb, eqb-true}
use Rattle.std.specs.Prelude.{Result, Ok, Err}
use Rattle.std.specs.Result.{IsErrAnd}
use Rattle.counting.specs.Words.{◌when◌}
use Rattle.counting.specs.Buffers.{after}
use Rattle.counting.proofs.Refusals.{when-yes, when-none}
use Rattle.call_answers.specs.declared.Refusal.{Refusal}
use Rattle.call_answers.specs.Answers.{Told, Tried, number_of, accepts, total}
use Rattle.call_answers.proofs.Refused.{numbered}

-- what the buffer holds after a refusal x, and after none
kept-after : (x : ℕ) (new old : List ℕ) → (x ≡ 0 → ⊥) → old ≡ after x new old
kept-after zero new old h = absurd (h refl)
kept-after (suc x) new old h = refl

new-after : (x : ℕ) (new old now : List ℕ) → x ≡ 0 → now ≡ new → now ≡ after x new old
new-after zero new old now z q = q
new-after (suc x) new old now z q = absurd (suc-ne-zero x z)

-- what a call gives by another name, which it has where nothing is refused
pub told_same : {r : Result ℕ Refusal} {x t u : ℕ} → (x ≡ 0 → t ≡ u) → Told r x t → Told r x u
told_same {r} {x} {t} {u} h told =
    record { right-number = told.right-number; right-case = told.right-case; right-total = told.right-total ∙ due x h }
  where
    due : (y : ℕ) → (y ≡ 0 → t ≡ u) → t when eqb y 0 ≡ u when eqb y 0
    due zero g = ap (λ (z : ℕ). z when eqb 0 0) (g refl)
    due (suc y) g =
        let none : eqb (suc y) 0 ≡ _ = ne_eqb (suc y) 0 (suc-ne-zero y) in
        sym (when-none t (eqb (suc y) 0) none) ∙ when-none u (eqb (suc y) 0) none

pub after_same : (x : ℕ) (new other old : List ℕ) → (x ≡ 0 → new ≡ other) → after x new old ≡ after x other old
after_same zero new other old h = h refl
after_same (suc x) new other old h = refl

-- an acceptance says that nothing is refused, with the total that is due and the new bytes in a lent buffer
module _ {r : Result ℕ Refusal} {x t : ℕ} (told : Told r x t) (y : accepts r ≡ true) where
  pub told-passed : x ≡ 0
  told-passed = eqb-true x 0 (sym told.right-case ∙ y)

  pub told-due : total r ≡ t
  told-due = told.right-total ∙ sym (when-yes t (eqb x 0) (eq-eqb x 0 told-passed))

  pub told-new : (new old : List ℕ) {now : List ℕ} → now ≡ after x new old → now ≡ new
  told-new new old e = e ∙ sym (new-after x new old new told-passed refl)

module _ {A : Type 0} {chain : A → ℕ} {i : A} (e : Refusal) (tried : Tried chain i (number_of e)) where
  -- a refusal, with the total 0
  pub told-refused : {t : ℕ} → Told (Err e) (chain i) t
  told-refused {t} =
      let none : eqb (chain i) 0 ≡ _ = ne_eqb (chain i) 0 (λ z. numbered e (tried.first ∙ z)) in
      record { right-number = tried.first; right-case = sym none; right-total = when-none t (eqb (chain i) 0) none }

  -- as a `?` hands it out
  pub told-error : {t : ℕ} (r : Result ℕ Refusal) → IsErrAnd r (λ y. y ≡ e) → Told r (chain i) t
  told-error (Ok x) h = absurd h
  told-error (Err y) h = rw h told-refused

  -- a lent buffer holds what it held
  pub kept-refused : (new old : List ℕ) → old ≡ after (chain i) new old
  kept-refused new old = kept-after (chain i) new old (λ z. numbered e (tried.first ∙ z))

module _ {A : Type 0} {chain : A → ℕ} {i : A} (tried : Tried chain i 0) where
  -- an acceptance, with the total that is due
  pub told-total : {s t : ℕ} → s ≡ t → Told (Ok s) (chain i) t
  told-total {s} {t} q =
      let passed : chain i ≡ 0 = sym tried.first in
      let yes : eqb (chain i) 0 ≡ _ = eq-eqb (chain i) 0 passed in
      record { right-number = sym passed; right-case = sym yes; right-total = q ∙ when-yes t (eqb (chain i) 0) yes }

  -- a lent buffer holds the new bytes
  pub new-accepted : (new old : List ℕ) {now : List ℕ} → now ≡ new → now ≡ after (chain i) new old
  new-accepted new old {now} q = new-after (chain i) new old now (sym tried.first) q
