use mathlib.Core.Path.{refl, ◌∙◌}
use native.Mathlib.Omega.{arith}
use Rattle.survey.specs.Rows.{score_at}
use Rattle.survey.proofs.Places.{score-none}
use Rattle.tables.proofs.Filling.{table-small, by-site, filled_more}
use Rattle.tables.proofs.Tabled.{blank-start}
use Rattle.tables.proofs.by_site.fill_values.Goals as goal

pub loop-s-init : goal.loop-s-init
loop-s-init c =
    let t = c.args.town in
    let p = c.requires in
    let small = table-small _ _ p.ranked.0.few-streets p.ranked.0.few-sites in
    (blank-start (λ s. score_at t.scores.now) t.rows.now (λ s. score-none t.scores.now) (by-site _ _) small p.blank, refl)

pub loop-s-preserved : goal.loop-s-preserved
loop-s-preserved c =
    let l = c.loop-s in
    let call = c.fill_street in
    let same = call.auto.values in
    (filled_more c.requires.ranked.0 (omega arith) c.row.ensures l.invariant.0 call.new.values same call.ensures, same ∙ l.invariant.1)
