-- Laws of the greedy list: it is a plan of different sites of 1 to m, it holds the list it starts from, and each round only adds behind it; and that
-- a street goes to a chosen site.
-- Assumes nothing.
use mathlib.Core.Path.{◌≡◌, refl, sym, ◌∙◌}
use mathlib.Core.Bool.{true}
use mathlib.Core.List.{List, [], ◌∷◌, ◌++◌}
use Prim.Native.Nat.{ℕ, zero, suc, ◌+◌, ◌≤◌, ◌<◌}
use native.Mathlib.Nat.{zero-add, add-zero, add-suc}
use native.Mathlib.Numerals.{add-one}
use native.Mathlib.Omega.{arith}
use lib.ListN.{length, take, length-append}
use lib.Seq.{take_all, take-append-le}
use Rattle.counting.specs.Lists.{at, has}
use Rattle.counting.proofs.Refusals.{or_left, when-some, first-find}
use Rattle.counting.proofs.Membership.{has-append}
use Rattle.counting.proofs.Choices.{plan-none, plan-add}
use Rattle.counting.proofs.Greatest.{unchosen-only, unchosen-greatest}
use Rattle.free_plan.specs.Greedy.{pick, greedy, chosen_at, goes_to}
use Rattle.counting.specs.Sites.{Sub, Choice}

-- a list with more sites behind it holds those that it had
pub sub-append : (S T : List ℕ) → Sub S (S ++ T)
sub-append S T a h = rw has-append (or_left (has a S) (has a T) h)

module _ (v : ℕ → ℕ → ℕ) (n m : ℕ) where
  -- a round makes a plan of one site more, while a site is left
  pub pick-plan : {i : ℕ} {S : List ℕ} → Choice m i S → i < m → Choice m (suc i) (S ++ (pick v n m S ∷ []))
  pick-plan {i} {S} p l =
      let c = unchosen-greatest S _ m (omega (arith, p.size)) in
      let (low, new) = unchosen-only S (pick v n m S) c.passes in
      plan-add p (pick v n m S) low c.upto new

  -- one round more
  pub greedy-next : (k : ℕ) (S : List ℕ) → greedy v n m (k + 1) S ≡ greedy v n m k S ++ (pick v n m (greedy v n m k S) ∷ [])
  greedy-next k S = rw add-one refl

  -- k rounds from a plan make a plan of k sites more
  pub greedy-plan : {i : ℕ} {S : List ℕ} (k : ℕ) → Choice m i S → i + k ≤ m → Choice m (i + k) (greedy v n m k S)
  greedy-plan zero p l = rw add-zero p
  greedy-plan (suc k) p l = rw add-suc (pick-plan (greedy-plan k p (omega arith)) (omega arith))

  -- the free plan: k rounds from no site make a plan of k sites
  pub free-plan : (k : ℕ) → k ≤ m → Choice m k (greedy v n m k [])
  free-plan k l = rw zero-add at (greedy-plan k plan-none (omega arith))

  -- k rounds add k entries
  pub greedy-length : (k : ℕ) (S : List ℕ) → length (greedy v n m k S) ≡ length S + k
  greedy-length zero S = omega arith
  greedy-length (suc k) S = omega (arith, length-append (greedy v n m k S) (pick v n m (greedy v n m k S) ∷ []), greedy-length k S)

  -- the list of k rounds is the opening part of the list of k + j rounds
  pub greedy-opens : (k j : ℕ) (S : List ℕ) → take (length S + k) (greedy v n m (k + j) S) ≡ greedy v n m k S
  greedy-opens k zero S = rw add-zero (take_all (length S + k) (greedy v n m k S) (omega (arith, greedy-length k S)))
  greedy-opens k (suc j) S =
      let G = greedy v n m (k + j) S in
      rw add-suc (take-append-le (length S + k) G (pick v n m G ∷ []) (omega (arith, greedy-length (k + j) S)) ∙ greedy-opens k j S)

  -- the sites that it starts from stay
  pub greedy-holds : (k : ℕ) (S : List ℕ) → Sub S (greedy v n m k S)
  greedy-holds zero S a h = h
  greedy-holds (suc k) S a h = sub-append (greedy v n m k S) (pick v n m (greedy v n m k S) ∷ []) a (greedy-holds k S a h)

-- where a street goes is a chosen site, unless it goes nowhere
pub goes-chosen : (L S : List ℕ) → 0 < goes_to (λ a. has a S) L → has (goes_to (λ a. has a S) L) S ≡ true
goes-chosen L S p =
    let (i, l, e, before) = first-find (length L) (chosen_at (λ a. has a S) L) p in
    let (h, w) = when-some (at L i) (has (at L i) S) (rw e p) in
    rw (sym e ∙ w) h
