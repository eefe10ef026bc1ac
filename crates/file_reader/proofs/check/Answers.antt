use native.Mathlib.Omega.{arith}
use mathlib.Core.Path.{ap, ◌∙◌}
use Rattle.call_answers.proofs.Refused.{handed}
use Rattle.file_reader.specs.declared.records.Due.TheVariants as due
use Rattle.file_reader.specs.Answers.{record_refusal}
use Rattle.file_reader.proofs.Whole.{town-stops, AtScores, at-scores, scores-stop, at-weights, weights-stop, at-streets, streets-decide, all-taken}
use Rattle.file_reader.proofs.check.Goals as goal

pub returns-in_err-sizes-clause-number : goal.returns-in_err-sizes-clause-number
returns-in_err-sizes-clause-number c =
    let here = c.in_err-sizes.ensures.number ∙ ap (record_refusal due.Town) c.new.ensures.all_left.1 in
    handed _ _ c.from_residual.ensures.1 ∙ town-stops c.args.file.now _ here

pub returns-in_err-behind_scores-clause-number : goal.returns-in_err-behind_scores-clause-number
returns-in_err-behind_scores-clause-number c =
    let file = c.args.file.now in
    let town = c.in_ok-sizes.ensures in
    let at : AtScores file _ _ = at-scores file c.new.ensures.all_left.1 town.number town.sizes town.past.1 in
    handed _ _ c.from_residual-in_err-behind_scores.ensures.1 ∙ scores-stop file at _ c.in_err-behind_scores.ensures.number

pub returns-in_err-behind_weights-clause-number : goal.returns-in_err-behind_weights-clause-number
returns-in_err-behind_weights-clause-number c =
    let file = c.args.file.now in
    let town = c.in_ok-sizes.ensures in
    let scores = c.in_ok-behind_scores.ensures in
    let at = at-weights file (at-scores file c.new.ensures.all_left.1 town.number town.sizes town.past.1) scores.number scores.past.1 in
    handed _ _ c.from_residual-in_err-behind_weights.ensures.1 ∙ weights-stop file at _ c.in_err-behind_weights.ensures.number

pub returns-in_err-try_streets-clause-number : goal.returns-in_err-try_streets-clause-number
returns-in_err-try_streets-clause-number c =
    let file = c.args.file.now in
    let town = c.in_ok-sizes.ensures in
    let scores = c.in_ok-behind_scores.ensures in
    let weights = c.in_ok-behind_weights.ensures in
    let behind = at-weights file (at-scores file c.new.ensures.all_left.1 town.number town.sizes town.past.1) scores.number scores.past.1 in
    let at = at-streets file behind weights.number weights.past.1 in
    handed _ _ c.from_residual-in_err-try_streets.ensures.1 ∙ streets-decide file at _ c.in_err-try_streets.ensures

pub invariant_of-result : goal.invariant_of-result
invariant_of-result c =
    let file = c.args.file.now in
    let town = c.in_ok-sizes.ensures in
    let scores = c.in_ok-behind_scores.ensures in
    let weights = c.in_ok-behind_weights.ensures in
    let behind = at-weights file (at-scores file c.new.ensures.all_left.1 town.number town.sizes town.past.1) scores.number scores.past.1 in
    record {
      taken = all-taken file (at-streets file behind weights.number weights.past.1) c.in_ok-try_streets.ensures;
      bytes = λ j. omega (arith, c.type_inv.file j);
    }
