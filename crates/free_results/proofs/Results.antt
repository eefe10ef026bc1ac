-- Laws of the results: what the engine's state holds, said as totals, divisions and sites of the survey.
-- Assumes nothing.
use mathlib.Core.Path.{◌≡◌, ap, ◌∙◌}
use mathlib.Core.Bool.{Bool, false}
use mathlib.Core.List.{List}
use Prim.Native.Nat.{ℕ, ◌*◌, ◌≤◌, ◌<◌}
use native.Mathlib.Omega.{arith}
use native.Mathlib.Decide.{dec_lt}
use lib.ListN.{length, get_or, take}
use Rattle.counting.specs.Words.{◌when◌, sum_of}
use Rattle.counting.specs.Lists.{at, has}
use Rattle.counting.specs.Buffers.{list_of}
use Rattle.counting.proofs.Refusals.{first-same}
use Rattle.counting.proofs.Sums.{at-past, list_of-same, has-index}
use Rattle.survey.specs.Town.{Town}
use Rattle.survey.specs.Rows.{row_of, list_of_street, score}
use Rattle.survey.specs.Accepted.{Accepted}
use Rattle.survey.proofs.Places.{ranked-bound, scored-bound}
use Rattle.free_plan.specs.Greedy.{goes_to, chosen_at}
use Rattle.free_plan.proofs.Valued.{AtMost}
use Rattle.free_rounds.specs.declared.State.{State}
use Rattle.free_rounds.specs.Held.{Held, Scores, sites_of}
use Rattle.plans.specs.Plans.{list_total, free_division}
use Rattle.free_rounds.proofs.Rounded.{bests-small, total-is}

-- sites that are each at most m
pub at-most-list : (m : ℕ) (sites : List ℕ) → ((i : ℕ) → at sites i ≤ m) → AtMost m sites
at-most-list m sites h a i = let (j, l, e) = has-index a sites i in rw (← e) (h j)

module _ {t : Town} (ok : Accepted t) {state : State} (held : Held (score t) t.n state) where
  -- the streets' bests are scores
  pub bests-ready : Scores (take t.n state.bests)
  bests-ready = bests-small (score t) t.n state held (λ s a. omega (arith, scored-bound ok s a))

  -- a street's list holds sites up to m alone
  list-bound : (s : ℕ) → s < t.n → (j : ℕ) → at (list_of_street t s) j ≤ t.m
  list-bound s l = ranked-bound (row_of t s) t.m (λ j. go j (dec_lt j (length (row_of t s))))
    where
      go : (j : ℕ) → Dec (j < length (row_of t s)) → at (row_of t s) j ≤ t.m
      go j (yes q) = (ok.sound-rows s l).named j q
      go j (no q) = omega (arith, at-past (row_of t s) j (omega arith))

  -- the sum is the total of the sites
  pub total-found : {r : ℕ} → r ≡ sum_of t.n (λ s. at t.weights s * at (take t.n state.bests) s) → r ≡ list_total t (sites_of state)
  total-found e = e ∙ total-is (at t.weights) (score t) t.n state held

  -- by the flags a street goes where it goes by the sites
  goes : {S : List ℕ} → sites_of state ≡ S → (s : ℕ) → s < t.n
      → goes_to (λ a. get_or state.flags a false) (list_of_street t s) ≡ goes_to (λ a. has a S) (list_of_street t s)
  goes {S} sites s l =
      let list : List ℕ = list_of_street t s in
      first-same (length list) (chosen_at (λ a. get_or state.flags a false) list) (chosen_at (λ a. has a S) list)
      (λ j lj.
      let site = at list j in
      let low : site < 256 = omega (arith, list-bound s l j, ok.few-sites) in
      ap (λ (t : Bool). site when t) (held.flags.right site low ∙ ap (λ (T : List ℕ). has site T) sites))

  pub served : {S division : List ℕ} → sites_of state ≡ S → division ≡ list_of t.n (λ s. goes_to (λ a. get_or state.flags a false) (list_of_street t s))
      → division ≡ free_division t S
  served sites d = d ∙ list_of-same t.n _ _ (λ s l. goes sites s l)
