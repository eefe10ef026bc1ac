use native.Mathlib.Omega.{arith}
use mathlib.Core.Path.{ap, ◌∙◌}
use Rattle.survey.specs.Rows.{ranked_part}
use Rattle.survey_file.specs.Encode.{street_bytes}
use Rattle.counting.proofs.Laying.{turns-none, turns-room, turns_more}
use Rattle.file_writer.proofs.Encoded.{street-fits, street-written}
use Rattle.file_writer.proofs.records.write_streets.Goals as goal

pub loop-s-init : goal.loop-s-init
loop-s-init c = turns-none c.args.file.now c.args.i _ (omega (arith, c.requires.3))

pub write_street-next-requires : goal.write_street-next-requires
write_street-next-requires c =
    let t = c.args.town in
    let l = c.loop-s in
    let room = turns-room (street_bytes t.m t.rows.now) l.invariant t.n (omega arith) c.requires.3 in
    street-fits t.m t.rows.now l.s _ (c.ranked.ensures.bytes ∙ ap ranked_part c.row.ensures) l.next l.file c.requires.1 room

pub loop-s-preserved : goal.loop-s-preserved
loop-s-preserved c =
    let t = c.args.town in
    let l = c.loop-s in
    turns_more _ l.invariant (street-written t.m t.rows.now l.s _ (c.ranked.ensures.bytes ∙ ap ranked_part c.row.ensures) c.write_street-next.ensures)
