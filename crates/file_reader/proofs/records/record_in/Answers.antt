use mathlib.Core.Bool.{true, false}
use native.Mathlib.Omega.{arith}
use Rattle.survey_file.specs.Encode.{town_mark, scores_mark, weights_mark, street_mark, end_mark}
use Rattle.file_reader.specs.declared.records.Due.TheVariants as due
use Rattle.file_reader.specs.Answers.{mark_of}
use Rattle.file_reader.proofs.Reading.{refused, no-mark, other-mark, due-mark, town-mark, other-due, unknown-mark}
use Rattle.file_reader.proofs.records.record_in.Goals as goal

pub returns-then-rest-lt2 : goal.returns-then-rest-lt2
returns-then-rest-lt2 c = refused (no-mark c.args.due c.args.rest.now c.if-rest-lt2.true)

-- ---- another record is due
pub returns-in_default-due : goal.returns-in_default-due
returns-in_default-due c =
    let a = c.args in
    let w = c.word_at-mark in
    refused (other-mark a.due a.rest.now w.result c.if-rest-lt2.false w.ensures.0
    (other-due a.due a.rest.now w.result (town_mark false) c.in-20052.is c.in_default-due.not-Town))

pub returns-in_default-due-2 : goal.returns-in_default-due-2
returns-in_default-due-2 c =
    let a = c.args in
    let w = c.word_at-mark in
    refused (other-mark a.due a.rest.now w.result c.if-rest-lt2.false w.ensures.0
    (other-due a.due a.rest.now w.result (town_mark true) c.in-22356.is c.in_default-due-2.not-Town))

pub returns-in_default-due-3 : goal.returns-in_default-due-3
returns-in_default-due-3 c =
    let a = c.args in
    let w = c.word_at-mark in
    refused (other-mark a.due a.rest.now w.result c.if-rest-lt2.false w.ensures.0
    (other-due a.due a.rest.now w.result scores_mark c.in-17235.is (λ (m, e). c.in_default-due-3.not-Scores m e)))

pub returns-in_default-due-4 : goal.returns-in_default-due-4
returns-in_default-due-4 c =
    let a = c.args in
    let w = c.word_at-mark in
    refused (other-mark a.due a.rest.now w.result c.if-rest-lt2.false w.ensures.0
    (other-due a.due a.rest.now w.result weights_mark c.in-22344.is (λ (n, e). c.in_default-due-4.not-Weights n e)))

pub returns-in_default-due-5 : goal.returns-in_default-due-5
returns-in_default-due-5 c =
    let a = c.args in
    let w = c.word_at-mark in
    refused (other-mark a.due a.rest.now w.result c.if-rest-lt2.false w.ensures.0
    (other-due a.due a.rest.now w.result street_mark c.in-21587.is (λ (m, (number, e)). c.in_default-due-5.not-Street m number e)))

pub returns-in_default-due-6 : goal.returns-in_default-due-6
returns-in_default-due-6 c =
    let a = c.args in
    let w = c.word_at-mark in
    refused (other-mark a.due a.rest.now w.result c.if-rest-lt2.false w.ensures.0
    (other-due a.due a.rest.now w.result end_mark c.in-20037.is c.in_default-due-6.not-End))

-- ---- the record that is due
pub returns-in-Town : goal.returns-in-Town
returns-in-Town c =
    let a = c.args in
    let w = c.word_at-mark in
    town-mark a.due a.rest.now w.result c.if-rest-lt2.false w.ensures.0 false c.in-Town.is c.in-20052.is c.town_in.ensures

pub returns-in-Town-due : goal.returns-in-Town-due
returns-in-Town-due c =
    let a = c.args in
    let w = c.word_at-mark in
    town-mark a.due a.rest.now w.result c.if-rest-lt2.false w.ensures.0 true c.in-Town-due.is c.in-22356.is c.town_in-in-22356.ensures

pub returns-in-Scores : goal.returns-in-Scores
unfolding mark_of
returns-in-Scores c =
    let a = c.args in
    let w = c.word_at-mark in
    due-mark a.due a.rest.now w.result c.if-rest-lt2.false w.ensures.0 (due.Scores c.in-Scores.m) c.in-Scores.is c.in-17235.is c.scores_in.ensures

pub returns-in-Weights : goal.returns-in-Weights
unfolding mark_of
returns-in-Weights c =
    let a = c.args in
    let w = c.word_at-mark in
    due-mark a.due a.rest.now w.result c.if-rest-lt2.false w.ensures.0 (due.Weights c.in-Weights.n) c.in-Weights.is c.in-22344.is c.weights_in.ensures

pub returns-in-Street : goal.returns-in-Street
unfolding mark_of
returns-in-Street c =
    let a = c.args in
    let w = c.word_at-mark in
    due-mark a.due a.rest.now w.result c.if-rest-lt2.false w.ensures.0 (due.Street c.in-Street.m c.in-Street.number) c.in-Street.is c.in-21587.is c.street_in.ensures

pub returns-in-End : goal.returns-in-End
unfolding mark_of
returns-in-End c =
    let a = c.args in
    let w = c.word_at-mark in
    due-mark a.due a.rest.now w.result c.if-rest-lt2.false w.ensures.0 due.End c.in-End.is c.in-20037.is c.end_in.ensures

-- ---- a mark of no record
pub returns-in_default : goal.returns-in_default
returns-in_default c =
    let a = c.args in
    let w = c.word_at-mark in
    refused (other-mark a.due a.rest.now w.result c.if-rest-lt2.false w.ensures.0
    (unknown-mark a.due a.rest.now w.result (λ e. omega arith) (λ e. omega arith) (λ e. omega arith) (λ e. omega arith) (λ e. omega arith) (λ e. omega arith)))
