use mathlib.Core.Path.{◌≡◌}
use lib.ListN.{length}
use Rattle.plain_search.proofs.rounds.sites_of.Given as goal

abbrev pub invariant-loop-i : goal.invariant-loop-i
invariant-loop-i l = (length l.chosen ≡ 6) × (length l.given ≡ 8)
