use borrow.Author.Rules.{rules}
use native.Mathlib.Omega.{arith}
use mathlib.Core.Path.{sym, ◌∙◌}
use Prim.Native.Nat.{◌+◌, ◌≤◌}
use lib.ListN.{length, drop}
use Rattle.counting.proofs.Refusals.{first-start}
use Rattle.call_answers.proofs.Refused.{handed}
use Rattle.file_reader.proofs.Walking.{street-taken, past-none, street-stops, street-past, street-passes, end_is}
use Rattle.file_reader.proofs.streets.try_streets.Goals as goal

pub loop-i-init : goal.loop-i-init
loop-i-init c = (search rules, past-none _, first-start _)

pub returns-in_err-size : goal.returns-in_err-size
returns-in_err-size c =
    let a = c.args in
    let l = c.loop-i in
    handed _ _ c.from_residual.ensures.1
    ∙ street-stops a.file.now (drop a.from a.file.now) a.m l.at l.i l.invariant.1 a.n _ c.loop-i-test.true l.invariant.2 c.in_err-size.ensures.right-number

pub loop-i-preserved : goal.loop-i-preserved
loop-i-preserved c =
    let a = c.args in
    let l = c.loop-i in
    let streets = drop a.from a.file.now in
    let quiet = c.in_ok-size.ensures.right-number in
    let taken = street-taken a.file.now a.m (l.i + 1) l.at c.in-Street.size quiet (sym c.in-Street.is ∙ c.in_ok-size.ensures.right-fields) in
    let within : l.at + (5 + c.in-Street.size) ≤ length a.file.now = omega (arith, taken.1) in
    (within, street-past a.file.now streets a.m l.at l.i l.invariant.1 _ taken.0, street-passes a.file.now streets a.m l.at l.i l.invariant.1 l.invariant.2 quiet)

pub returns-in_err-record_at : goal.returns-in_err-record_at
returns-in_err-record_at c =
    let a = c.args in
    let l = c.loop-i in
    handed _ _ c.from_residual-in_err-record_at.ensures.1
    ∙ end_is a.file.now (drop a.from a.file.now) a.m l.at l.i l.invariant.1 a.n _ (omega arith) (omega arith) l.invariant.2 c.in_err-record_at.ensures.right-number

pub returns : goal.returns
returns c =
    let a = c.args in
    let l = c.loop-i in
    end_is a.file.now (drop a.from a.file.now) a.m l.at l.i l.invariant.1 a.n _ (omega arith) (omega arith) l.invariant.2 c.in_ok-record_at.ensures.right-number
