use mathlib.Core.Path.{refl, ◌∙◌}
use native.Mathlib.Omega.{arith}
use Rattle.tables.proofs.Filling.{ranked, by-street, filled_more}
use Rattle.tables.proofs.Tabled.{blank-start, weighed-none, street-fits}
use Rattle.tables.proofs.by_street.fill_values.Goals as goal

pub loop-s-init : goal.loop-s-init
loop-s-init c =
    let t = c.args.town.town in
    (blank-start _ t.rows.now (weighed-none t.weights.now t.scores.now) (by-street _ _) (street-fits c.args.town.accepted) c.requires, refl)

pub loop-s-preserved : goal.loop-s-preserved
loop-s-preserved c =
    let l = c.loop-s in
    let call = c.fill_street in
    let same = call.auto.values in (
      filled_more (ranked c.args.town.accepted) (omega (arith, c.args.town.accepted.weights-fit)) c.row.ensures l.invariant.0 call.new.values same
          call.ensures,
      same ∙ l.invariant.1,
    )
