use mathlib.Core.Path.{◌≡◌, refl, sym, ap, ◌∙◌}
use mathlib.Core.List.{List}
use native.Mathlib.Omega.{arith}
use Prim.Native.Nat.{ℕ, ◌*◌, ◌≤◌}
use lib.ListN.{length, take}
use lib.Seq.{length-take-le}
use Rattle.counting.specs.Lists.{cell}
use Rattle.division.specs.Shares.{division_total}
use Rattle.division.specs.Divide.{divide}
use Rattle.division.specs.Problem.{tail}
use Rattle.best_division.proofs.PassBuffers.{same-problem}
use Rattle.compact.proofs.SiteNumbers.{numbered-front}
use Rattle.compact.proofs.BestByNumbers.{few-problem, site_within, few-in, few-length, number-within, given_back, as_many}
use Rattle.compact.proofs.best_of_few.Goals as goal

pub rename-requires : goal.rename-requires
rename-requires c =
    let p = c.requires in
    let h = numbered-front p.numbered (omega (arith, p.numbered.fewer, p.problem.0.few-sites)) in
    λ t l. omega (arith, site_within p.problem.0 h c.args.division.now refl p.problem.1 t l, p.problem.0.few-sites)

pub best-total-requires : goal.best-total-requires
best-total-requires c =
    let D : List ℕ = c.args.division.now in
    let N : List ℕ = c.rename.new.division in
    let table : List ℕ = c.fill.new.table in
    let p = c.requires in
    let m = c.args.numbering.now in
    let fits : m.count ≤ length m.few = omega (arith, p.numbered.fewer, p.problem.0.few-sites) in
    let h = numbered-front p.numbered fits in
    let size : length table ≡ length D * length (take m.count m.few) =
    c.fill.auto.table ∙ p.table_len.0 ∙ ap (λ x. length D * x) (sym (length-take-le m.count m.few fits)) in
    let long = few-length p.problem.0 h D refl p.problem.1 N c.rename.ensures in
    (same-problem D N long (few-problem p.problem.0 h table size c.fill.ensures), few-in p.problem.0 h D refl p.problem.1 N c.rename.ensures)

pub rename-requires-2 : goal.rename-requires-2
rename-requires-2 c =
    let D : List ℕ = c.args.division.now in
    let N : List ℕ = c.rename.new.division in
    let table : List ℕ = c.fill.new.table in
    let p = c.requires in
    let m = c.args.numbering.now in
    let few : List ℕ = take m.count m.few in
    let h = numbered-front p.numbered (omega (arith, p.numbered.fewer, p.problem.0.few-sites)) in
    let long = few-length p.problem.0 h D refl p.problem.1 N c.rename.ensures in
    let best = as_many (λ k. divide (cell table (length few)) k (tail few)) c.best-total.new.division (length N) _ long c.best-total.ensures.division in
    let within = number-within p.problem.0 h D refl p.problem.1 table c.fill.ensures _ best in
    λ t l. omega (arith, within t l, h.fewer, p.problem.0.few-sites)

pub returns : goal.returns
returns c =
    let D : List ℕ = c.args.division.now in
    let N : List ℕ = c.rename.new.division in
    let table : List ℕ = c.fill.new.table in
    let p = c.requires in
    let m = c.args.numbering.now in
    let few : List ℕ = take m.count m.few in
    let v : ℕ → ℕ → ℕ = cell table (length few) in
    let h = numbered-front p.numbered (omega (arith, p.numbered.fewer, p.problem.0.few-sites)) in
    let long = few-length p.problem.0 h D refl p.problem.1 N c.rename.ensures in
    let best = as_many (λ k. divide v k (tail few)) c.best-total.new.division (length N) _ long c.best-total.ensures.division in
    let total = as_many (λ k. division_total v (divide v k (tail few))) _ (length N) (length D) long c.best-total.ensures.total in
    let back = given_back p.problem.0 h D refl p.problem.1 table c.fill.ensures c.best-total.new.division best _ _ c.rename-2.ensures total in
    record { total = back.0; division = back.1 }
