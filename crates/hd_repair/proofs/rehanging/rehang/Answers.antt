-- The object has its new support. Either its stamp is late enough already (`rehung_early`), or it is lifted first,
-- and `lift_below` lifts what hangs below it.
use Rattle.std.proofs.Common.{◌≡◌, ◌∙◌, ◌≤◌, length, arith}
use Rattle.hd_terms.specs.EdgeRows.{AreRows}
use Rattle.hd_repair.specs.Losing.{progress_of, LateFrom}
use Rattle.hd_repair.proofs.DistinctLemmas.{length-different}
use Rattle.hd_repair.specs.Losing.{is_lifted}
use Rattle.hd_repair.proofs.RehangLemmas.{begin_lifting, rehung_early, rehung_late, since_early, since_late, since_lifted, underway_lifted, with_rehung}
use Rattle.hd_repair.proofs.AloneLemmas.{strengths_stay}
use Rattle.hd_repair.proofs.rehanging.rehang.Goals as goal

pub stamp_after-least-requires-clause-room : goal.stamp_after-least-requires-clause-room
stamp_after-least-requires-clause-room g c o =
    let h = c.requires.underway in
    let n = (g.E.Edges.rows c.args.edges.now).objects in
    let few : length c.args.losing.now.lifted.items ≤ n = length-different n c.args.losing.now.lifted.items h.distinct.lifted
    (λ x is. h.distinct.within x (is_lifted is)) in
    omega (arith, h.room o, h.count, c.are_few.ensures)

pub returns-then-least-stamp-clause-underway : goal.returns-then-least-stamp-clause-underway
returns-then-least-stamp-clause-underway g c =
    let rows = g.E.Edges.rows in
    let r = rows c.args.edges.now in
    rw c.in_ok-push.ensures.items (rehung_early r (g.met.E.Edges.lawful c.args.edges.now) c.args.kept.now c.put.new.self c.args.o
    (progress_of c.args.losing.now) c.args.support c.strength-strength.result c.stamp-stamp.result c.stamp_after-least.result
    c.requires.underway c.requires.support c.strength-strength.ensures c.stamp-stamp.ensures.stamp c.stamp_after-least.ensures.later
    c.stamp_after-least.ensures.bounded c.put.ensures.count c.in_ok-put.ensures.others c.if-least-stamp.true c.in_ok-put.ensures.here)

pub returns-then-least-stamp-clause-since : goal.returns-then-least-stamp-clause-since
returns-then-least-stamp-clause-since g c ks0 lost f =
    let rows = g.E.Edges.rows in
    let r = rows c.args.edges.now in
    rw c.in_ok-push.ensures.items (since_early r (g.met.E.Edges.lawful c.args.edges.now) c.args.kept.now c.put.new.self c.args.o
    (progress_of c.args.losing.now) c.args.support c.strength-strength.result c.stamp-stamp.result c.stamp_after-least.result
    c.requires.underway c.requires.support c.strength-strength.ensures c.stamp-stamp.ensures.stamp c.stamp_after-least.ensures.later
    c.stamp_after-least.ensures.bounded c.put.ensures.count c.in_ok-put.ensures.others c.if-least-stamp.true c.in_ok-put.ensures.here ks0 lost f)

pub lift_below-requires-clause-lifting : goal.lift_below-requires-clause-lifting
lift_below-requires-clause-lifting g c =
    let rows = g.E.Edges.rows in
    let r = rows c.args.edges.now in
    let laws : AreRows r = g.met.E.Edges.lawful c.args.edges.now in
    let p = progress_of c.args.losing.now in
    let lifted' = c.push-2.new.self.items in
    let late = rehung_late r laws c.args.kept.now c.put-2.new.self c.args.o p c.args.support c.strength-strength.result c.stamp-stamp.result
    c.stamp_after-least.result
    c.requires.underway c.requires.support c.strength-strength.ensures c.stamp-stamp.ensures.stamp c.stamp_after-least.ensures.later
    c.stamp_after-least.ensures.bounded c.put-2.ensures.count c.in_ok-put-2.ensures.others lifted' c.in_ok-push-2.ensures.items
    c.in_ok-put-2.ensures.here in
    let first : c.len-first.result ≡ length c.args.losing.now.lifted.items = omega (arith, c.len-first.ensures, c.args.losing.now.lifted.ok) in
    rw first (begin_lifting r laws c.put-2.new.self (with_rehung c.args.o lifted' p) (LateFrom (length c.args.losing.now.lifted.items) lifted') late)

pub returns-clause-underway : goal.returns-clause-underway
returns-clause-underway g c =
    let rows = g.E.Edges.rows in
    let r = rows c.args.edges.now in
    let laws : AreRows r = g.met.E.Edges.lawful c.args.edges.now in
    let p = progress_of c.args.losing.now in
    let lifted' = c.push-2.new.self.items in
    let late = rehung_late r laws c.args.kept.now c.put-2.new.self c.args.o p c.args.support c.strength-strength.result c.stamp-stamp.result
    c.stamp_after-least.result
    c.requires.underway c.requires.support c.strength-strength.ensures c.stamp-stamp.ensures.stamp c.stamp_after-least.ensures.later
    c.stamp_after-least.ensures.bounded c.put-2.ensures.count c.in_ok-put-2.ensures.others lifted' c.in_ok-push-2.ensures.items
    c.in_ok-put-2.ensures.here in
    rw c.in_ok-push.ensures.items (underway_lifted r laws c.put-2.new.self (with_rehung c.args.o lifted' p)
    (LateFrom (length c.args.losing.now.lifted.items) lifted') late c.lift_below.new.kept c.lift_below.new.lifted.items
    c.in_ok-lift_below.ensures.lifting c.in_ok-lift_below.ensures.lifted)

pub returns-clause-since : goal.returns-clause-since
returns-clause-since g c ks0 lost f =
    let rows = g.E.Edges.rows in
    let r = rows c.args.edges.now in
    let laws : AreRows r = g.met.E.Edges.lawful c.args.edges.now in
    let p = progress_of c.args.losing.now in
    let lifted' = c.push-2.new.self.items in
    let late = since_late r laws c.args.kept.now c.put-2.new.self c.args.o p c.args.support c.strength-strength.result c.stamp-stamp.result
    c.stamp_after-least.result
    c.requires.underway c.requires.support c.strength-strength.ensures c.stamp-stamp.ensures.stamp c.stamp_after-least.ensures.later
    c.stamp_after-least.ensures.bounded c.put-2.ensures.count c.in_ok-put-2.ensures.others lifted' c.in_ok-push-2.ensures.items
    c.in_ok-put-2.ensures.here ks0 lost f in
    rw c.in_ok-push.ensures.items (since_lifted ks0 lost c.put-2.new.self (with_rehung c.args.o lifted' p) late c.lift_below.new.kept
    c.lift_below.new.lifted.items c.in_ok-lift_below.ensures.lifted)

pub returns-then-least-stamp-clause-strengths : goal.returns-then-least-stamp-clause-strengths
returns-then-least-stamp-clause-strengths g c = strengths_stay c.args.kept.now c.put.new.self c.args.o _ c.in_ok-put.ensures.here c.strength-strength.ensures
    c.in_ok-put.ensures.others

pub returns-clause-strengths : goal.returns-clause-strengths
returns-clause-strengths g c x = c.in_ok-lift_below.ensures.lifted.same_strength x ∙
    strengths_stay c.args.kept.now c.put-2.new.self c.args.o _ c.in_ok-put-2.ensures.here c.strength-strength.ensures c.in_ok-put-2.ensures.others x
