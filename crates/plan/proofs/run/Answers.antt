-- The text that is written is that of the whole input. Assumes nothing.
use Rattle.std.proofs.Common.{rules, arith, subst}
use Rattle.std.proofs.lemmas.Result.{on_ok_weaker}
use Rattle.std.specs.Io.KnownBytes.{Appends}
use Rattle.plan.proofs.Whole.{text_at_front, prints_file}
use Rattle.plan.proofs.run.Goals as goal

pub returns : goal.returns
returns g c =
    let read = c.in_ok-size.ensures in
    let text = text_at_front _ _ _ _ c.print-end.ensures.text in
    on_ok_weaker c.write_all.result
    (λ wrote. prints_file _ _ _ _ c.read_full.new.buffer c.in_ok-size.size (omega (arith, c.print-end.ensures.longest)) (search rules) read.bytes read.end (subst (Appends _ _) text wrote))
    c.write_all.ensures.bytes
