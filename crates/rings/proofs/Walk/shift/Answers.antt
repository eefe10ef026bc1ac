use Rattle.std.proofs.Common.{refl, ◌+◌, ◌∙◌, length, length-set, arith}
use Rattle.std.proofs.lemmas.List.{length_push}
use Rattle.std.proofs.lemmas.Slice.Zip.{zip_turn}
use Rattle.counting.proofs.Parts.{part}
use Rattle.rings.proofs.Moved.{moved_none, moved_more, next-move}
use Rattle.rings.proofs.Walk.shift.Goals as goal

pub loop-street-init : goal.loop-street-init
loop-street-init c = (refl, moved_none _ _ _ _)

pub bounds-division-from : goal.bounds-division-from
bounds-division-from c =
    let a = c.args in
    let r = a.ring in
    let streets = part r.from (r.from + r.count) a.self.now.streets in
    let sites = part (r.from + 1) (length a.self.now.sites) a.self.now.sites in
    let turn = zip_turn streets sites c.loop-street.yielded _ _ c.next.new.self _
    (cc) (cc) c.loop-street.yielded_by _ c.in-Some.is c.next.ensures.steps in
    let (less, street, site) = next-move a.self.now.streets a.self.now.sites r.from r.count _ _ _ (omega (arith, c.requires.fits)) turn in
    omega (arith, c.requires.within (r.from + length c.loop-street.yielded) (omega arith) (omega arith), street, c.loop-street.invariant.0)

pub loop-street-preserved : goal.loop-street-preserved
loop-street-preserved c =
    let a = c.args in
    let r = a.ring in
    let l = c.loop-street in
    let streets = part r.from (r.from + r.count) a.self.now.streets in
    let sites = part (r.from + 1) (length a.self.now.sites) a.self.now.sites in
    let turn = zip_turn streets sites l.yielded _ _ c.next.new.self _
    (cc) (cc) l.yielded_by _ c.in-Some.is c.next.ensures.steps in
    let (less, street, site) = next-move a.self.now.streets a.self.now.sites r.from r.count _ _ _ (omega (arith, c.requires.fits)) turn in
    let more = moved_more a.division.now l.division _ _ r.from (length l.yielded) l.invariant.1 in
    (length-set l.division _ _ ∙ l.invariant.0, rw (length_push, c.from.ensures, street, site) more)
