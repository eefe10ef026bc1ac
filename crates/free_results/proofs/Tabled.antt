-- The state that the engine makes of the table of values, said of the survey.
-- Assumes nothing.
use mathlib.Core.Path.{◌≡◌, sym, ap, subst, ◌∙◌}
use mathlib.Core.List.{List}
use Prim.Native.Nat.{ℕ, ◌+◌, ◌*◌, ◌≤◌, ◌<◌}
use Rattle.counting.specs.Lists.{at}
use Rattle.survey.specs.Town.{Town}
use Rattle.survey.specs.Rows.{score, value}
use Rattle.survey.specs.Accepted.{Accepted}
use Rattle.tables.specs.Tables.{Tabled, site_value}
use Rattle.tables.proofs.Tabled.{site-same}
use Rattle.free_plan.specs.Greedy.{greedy}
use Rattle.free_plan.proofs.Valued.{AtMost, best-agree, greedy-agree, greedy-most}
use Rattle.free_rounds.specs.declared.State.{State}
use Rattle.free_rounds.specs.Held.{Held, sites_of}

module _ {t : Town} (ok : Accepted t) {values : List ℕ} (h : Tabled (λ a s. score t s a) (t.m + 1) t.n values) (w : ℕ → ℕ)
    (weights : (s : ℕ) → s < t.n → w s ≡ at t.weights s) where
  -- the table's scores
  abbrev v : ℕ → ℕ → ℕ
  v = site_value values t.n

  -- what they count
  abbrev counted : ℕ → ℕ → ℕ
  counted s a = w s * v s a

  -- is the town's values
  counted-same : (s a : ℕ) → s < t.n → a ≤ t.m → counted s a ≡ value t s a
  counted-same s a l u = ap (λ (x : ℕ). x * v s a) (weights s l) ∙ ap (λ (x : ℕ). at t.weights s * x) (site-same ok h s a l u)

  module _ (k : ℕ) (start : List ℕ) (low : AtMost t.m start) (state : State) (sites : sites_of state ≡ greedy counted t.n t.m k start) where
    pub sites-planned : sites_of state ≡ greedy (value t) t.n t.m k start
    sites-planned = sites ∙ greedy-agree counted (value t) t.n t.m counted-same k start low

    pub held-planned : Held v t.n state → Held (score t) t.n state
    held-planned held =
        record {
          chosen-size = held.chosen-size;
          bests-size = held.bests-size;
          flags = held.flags;
          bests = λ s l. held.bests s l ∙ best-agree v (score t) t.n t.m (site-same ok h) s l (sites_of state)
              (subst (AtMost t.m) (sym sites) (greedy-most counted t.n t.m k start low));
        }
