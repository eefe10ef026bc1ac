use mathlib.Core.Path.{◌∙◌, ap}
use Prim.Native.Nat.{◌-◌}
use native.Mathlib.Omega.{arith}
use lib.ListN.{length, length-set}
use Rattle.rings.proofs.WalkBack.{linked-step, closes, apart_more, fewer}
use Rattle.rings.proofs.Walk.back.Goals as goal

pub loop-l-preserved : goal.loop-l-preserved
loop-l-preserved c =
    let l = c.loop-l.l in
    let i = c.loop-l.invariant in
    let old = c.loop-l.self in
    let e = c.step.ensures in
    let few = c.requires.fits in
    let streets = ap length e.streets ∙ length-set old.streets _ _ ∙ i.1 in
    let sites = ap length e.sites ∙ length-set old.sites _ _ ∙ i.2 in
    let (linked, apart) =
    linked-step c.requires (l - 1) l old.streets old.sites (omega arith) i.0 (omega (arith, few, i.1)) (omega (arith, few, i.2)) i.3 e.streets e.sites in
    (omega arith, streets, sites, (linked, apart_more c.step.new.self.sites (l - 1) (omega (arith, few, sites)) apart c.in_default.ensures))

pub returns-in-Some : goal.returns-in-Some
returns-in-Some c =
    let l = c.loop-l.l in
    let i = c.loop-l.invariant in
    let old = c.loop-l.self in
    let e = c.step.ensures in
    let few = c.requires.fits in
    let sites = ap length e.sites ∙ length-set old.sites _ _ ∙ i.2 in
    let (linked, apart) =
    linked-step c.requires (l - 1) l old.streets old.sites (omega arith) i.0 (omega (arith, few, i.1)) (omega (arith, few, i.2)) i.3 e.streets e.sites in
    closes c.step.new.self.sites (l - 1) c.in-Some.meeting (omega (arith, few, sites)) (omega arith) linked apart c.in-Some.ensures

pub returns : goal.returns
returns c = let i = c.loop-l.invariant in fewer c.loop-l.l (omega arith) i.3.0 i.3.1
