use mathlib.Core.Path.{◌≡◌}
use lib.ListN.{length}
use Rattle.survey.specs.Rows.{score_at}
use Rattle.tables.specs.Entries.{by_site}
use Rattle.tables.proofs.Filling.{Filled}
use Rattle.tables.proofs.by_site.fill_values.Given as goal

abbrev pub invariant-loop-s : goal.invariant-loop-s
invariant-loop-s l = let t = l.town in
    Filled (λ u. score_at t.scores.now) (by_site t.n) t.n t.m t.rows.now l.values l.s × (length l.values ≡ length l.initial.values)
