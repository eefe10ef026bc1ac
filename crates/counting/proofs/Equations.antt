-- A fact carried along an equation: one law in place of one for each fact.
-- Assumes nothing.
use mathlib.Core.Path.{◌≡◌, sym, subst}

pub along : {A : Type 0} (P : A → Type 0) {x y : A} → y ≡ x → P x → P y
along P e h = subst P (sym e) h
