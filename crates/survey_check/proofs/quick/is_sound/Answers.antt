use mathlib.Core.Path.{sym, ◌∙◌}
use borrow.Author.Tests.{eqb-true}
use Rattle.survey.proofs.Sound.{row-accepted}
use Rattle.survey_check.proofs.Bits.{ranked-size, bits-sound}
use Rattle.survey_check.proofs.quick.is_sound.Goals as goal

pub slice_bounds-bits_of-end : goal.slice_bounds-bits_of-end
slice_bounds-bits_of-end c = sym (ranked-size c.args.row.now _ (c.from.ensures ∙ c.ranked_count-count.ensures))

pub returns : goal.returns
returns c m table e =
    let full = eqb-true _ _ e ∙ c.from-2.ensures ∙ sym c.from.ensures in
    row-accepted m c.args.row.now
    (bits-sound m c.args.bits.now c.args.row.now table _ _ (c.from.ensures ∙ c.ranked_count-count.ensures) c.bits_of-all.ensures full)
