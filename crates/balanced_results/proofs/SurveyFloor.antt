-- The floor's theorem said of a town: its balanced plan totals no less than the floor.
-- Assumes nothing.
use Prim.Native.Nat.{ℕ, ◌≤◌, ◌<◌}
use Rattle.counting.specs.Lists.{at}
use Rattle.counting.specs.Sites.{Choice}
use Rattle.survey.specs.Town.{Town}
use Rattle.survey.specs.Rows.{row_of, list_of_street, street_place, score_at, score, shortest, least_weight}
use Rattle.survey.specs.Accepted.{Accepted}
use Rattle.survey.proofs.Lists.{place-among, score-later, ranked-within, ranked-apart, shortest-least}
use Rattle.survey.proofs.Places.{scored-zero}
use Rattle.survey.proofs.LeastWeights.{least-low}
use Rattle.shares.specs.Rounds.{round_share}
use Rattle.shares.proofs.Sums.{shares-all}
use Rattle.balanced_plan.proofs.FloorShares.{share-crowd}
use Rattle.balanced_plan.proofs.Floored.{Ranking}
use Rattle.balanced_plan.proofs.CountedFloor.{counted-best-floor}
use Rattle.plans.specs.Plans.{street_key, balanced_sites, balanced_total, plan_floor}
use Rattle.plans.proofs.Orders.{key-falls}

module _ {t : Town} (ok : Accepted t) where
  -- the streets' lists are a ranking as long as the shortest
  ranking : Ranking (score t) (score_at t.scores) t.n t.m (shortest t) (list_of_street t)
  ranking =
      record {
        apart = λ s l. ranked-apart t.m (row_of t s) (ok.sound-rows s l);
        sites = λ s l. ranked-within t.m (row_of t s) (ok.sound-rows s l);
        long = shortest-least t;
        good = λ s a p l h i.
            let (low, high) = place-among (list_of_street t s) a p i in
            score-later t.scores ok.sound-scores (street_place t s a) p low high;
      }

  -- the best division in the shares of the rounds' sites totals no less than the floor
  pub plan-floor : (k : ℕ) → 0 < k → k ≤ t.m → Choice t.m k (balanced_sites t k) → plan_floor t k ≤ balanced_total t k
  plan-floor k some few sites =
      rw sites.size
      (counted-best-floor (score t) (street_key t) (at t.weights) (least_weight t) t.n t.m (shortest t) (score_at t.scores) (list_of_street t)
      (key-falls ok) (least-low t.n t.weights) ranking (round_share t.n k) k (scored-zero t) few (shares-all t.n k some)
      (share-crowd t.n t.m k few))
