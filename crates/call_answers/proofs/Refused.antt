-- Laws of chains of tries: a chain is left at a `?` with the refusal's number, and goes on where a try accepts.
-- Assumes nothing.
use mathlib.Core.Path.{◌≡◌, refl, sym, ap, ◌∙◌}
use mathlib.Core.List.{[], ◌∷◌}
use lib.ListN.{get_or}
use Prim.Native.Nat.{ℕ, ◌≤◌, ◌<◌, ◌-◌}
use native.Mathlib.Omega.{arith}
use Rattle.std.specs.Prelude.{Result, Ok, Err}
use Rattle.std.specs.Result.{IsErrAnd}
use Rattle.counting.specs.Words.{◌or_else◌, first_nonzero}
use Rattle.counting.proofs.Refusals.{or-stop, or-pass, first-start, first_found, first_done, first-quiet}
use Rattle.call_answers.specs.declared.Refusal.{Refusal}
use Rattle.call_answers.specs.declared.Refusal.TheVariants as refusal
use Rattle.call_answers.specs.Answers.{number_of, number}

-- no refusal has the number 0
pub numbered : (e : Refusal) → number_of e ≡ 0 → ⊥
numbered refusal.Streets h = omega arith
numbered refusal.Sites h = omega arith
numbered refusal.Chosen h = omega arith
numbered refusal.Kind h = omega arith
numbered refusal.Share h = omega arith
numbered refusal.Length h = omega arith
numbered refusal.Room h = omega arith
numbered refusal.Score h = omega arith
numbered refusal.Gap h = omega arith
numbered refusal.Number h = omega arith
numbered refusal.Twice h = omega arith
numbered refusal.Short h = omega arith
numbered refusal.Mark h = omega arith
numbered refusal.Turn h = omega arith
numbered refusal.Long h = omega arith
numbered refusal.Behind h = omega arith
numbered refusal.Range h = omega arith
numbered refusal.Usage h = omega arith
numbered refusal.Claim h = omega arith
numbered refusal.Again h = omega arith
numbered refusal.Load h = omega arith
numbered refusal.Kilograms h = omega arith
numbered refusal.Litres h = omega arith
numbered refusal.Weight h = omega arith
numbered refusal.Lost h = omega arith

-- the refusal of a number, so that the number fixes the refusal
abbrev named : ℕ → Refusal
named x =
    get_or (refusal.Streets ∷ refusal.Sites ∷ refusal.Chosen ∷ refusal.Kind ∷ refusal.Share ∷ refusal.Length ∷ refusal.Room ∷ refusal.Score ∷
    refusal.Gap ∷ refusal.Number ∷ refusal.Twice ∷ refusal.Short ∷ refusal.Mark ∷ refusal.Turn ∷ refusal.Long ∷ refusal.Behind ∷
    refusal.Range ∷ refusal.Usage ∷ refusal.Claim ∷ refusal.Again ∷ refusal.Load ∷ refusal.Kilograms ∷ refusal.Litres ∷ refusal.Weight ∷ refusal.Lost ∷ []) (x - 1) refusal.Lost

named-back : (e : Refusal) → named (number_of e) ≡ e
named-back refusal.Streets = refl
named-back refusal.Sites = refl
named-back refusal.Chosen = refl
named-back refusal.Kind = refl
named-back refusal.Share = refl
named-back refusal.Length = refl
named-back refusal.Room = refl
named-back refusal.Score = refl
named-back refusal.Gap = refl
named-back refusal.Number = refl
named-back refusal.Twice = refl
named-back refusal.Short = refl
named-back refusal.Mark = refl
named-back refusal.Turn = refl
named-back refusal.Long = refl
named-back refusal.Behind = refl
named-back refusal.Range = refl
named-back refusal.Usage = refl
named-back refusal.Claim = refl
named-back refusal.Again = refl
named-back refusal.Load = refl
named-back refusal.Kilograms = refl
named-back refusal.Litres = refl
named-back refusal.Weight = refl
named-back refusal.Lost = refl

pub number-fixes : (d e : Refusal) → number_of d ≡ number_of e → d ≡ e
number-fixes d e q = sym (named-back d) ∙ ap named q ∙ named-back e

-- a chain whose first try refuses, and one whose first try accepts
pub or-refused : (e : Refusal) (a b : ℕ) → number_of e ≡ a → a or_else b ≡ number_of e
or-refused e a b q = sym (or-stop (number_of e) a b q (λ z. numbered e z))

pub or-accepted : (a b : ℕ) → 0 ≡ a → a or_else b ≡ b
or-accepted a b h = sym (or-pass b 0 a b h refl refl)

-- the first refusal of a loop, and a loop that ends
pub loop-refused : (i n : ℕ) (f : ℕ → ℕ) (e : Refusal) → i < n → first_nonzero i f ≡ 0 → number_of e ≡ f i → first_nonzero n f ≡ number_of e
loop-refused i n f e l z q = sym (first_found i n f (number_of e) l z q (λ w. numbered e w))

pub loop_done : (i n : ℕ) (f : ℕ → ℕ) → n ≤ i → i ≤ n → first_nonzero i f ≡ 0 → first_nonzero n f ≡ 0
loop_done i n f l k z = sym (first_done i n f l k z)

-- the same of what a `?` hands out
pub handed : {T : Type 0} (r : Result T Refusal) (e : Refusal) → IsErrAnd r (λ y. y ≡ e) → number r ≡ number_of e
handed (Ok x) e h = absurd h
handed (Err y) e h = rw h

pub or-error : {T : Type 0} (r : Result T Refusal) (e : Refusal) (a b : ℕ) → IsErrAnd r (λ y. y ≡ e) → number_of e ≡ a → number r ≡ a or_else b
or-error r e a b h q = handed r e h ∙ sym (or-refused e a b q)

pub loop-error : {T : Type 0} (i n : ℕ) (f : ℕ → ℕ) (r : Result T Refusal) (e : Refusal) → first_nonzero i f ≡ 0 → IsErrAnd r (λ y. y ≡ e) → number_of e ≡ f i
    → i < n → number r ≡ first_nonzero n f
loop-error i n f r e z h q l = handed r e h ∙ sym (loop-refused i n f e l z q)

-- what a chain of tries needs, each a `?`
pub ruleset tries = (or-refused, or-accepted, loop-refused, first-start, first-quiet, loop_done)
