-- One object of the region after another is as the search found it (`one_renewed`), and all others stay.
-- In the end all are done.
use Rattle.std.proofs.Common.{◌≡◌, ◌^◌, length, arith}
use Rattle.hd_repair.proofs.RenewLemmas.{none_noted, none_renewed, one_left, one_noted, one_renewed, one_unnoted}
use Rattle.hd_repair.proofs.renewing.renewed.Goals as goal
use Rattle.hd_repair.proofs.renewing.renewed.Goals.{then-is_inside+in_ok-renew_object, else-is_inside}

pub loop-o-init : goal.loop-o-init
loop-o-init c =
    let known = c.args.marks.now.known.items in
    record {
      renewed = rw c.in_ok-renewed.ensures (none_renewed c.args.kept.now c.args.found.now known c.greatest_stamp-base.result);
      changes = rw c.new-changes.ensures.items (none_noted c.args.kept.now c.args.found.now known);
    }

pub renew_object-requires-clause-room : goal.renew_object-requires-clause-room
renew_object-requires-clause-room c =
    let least = c.greatest_stamp-base.ensures.greatest.least (2 ^ 47) c.requires.room in
    omega (arith, c.requires.stamps c.loop-o.o, least, c.len-o-end.ensures, c.len-o-end.type_inv)

pub loop-o-preserved : goal.loop-o-preserved
loop-o-preserved c =
    let ks = c.args.kept.now in
    let fs = c.args.found.now in
    let known = c.args.marks.now.known.items in
    let base = c.greatest_stamp-base.result in
    let o = c.loop-o.o in
    let h = c.loop-o.invariant.renewed in
    let same = h.others o (λ lt. absurd (omega arith)) in
    elim c.if-is_inside.branch [
      | then-is_inside+in_ok-renew_object w ↦
          let is = c.is_inside.ensures.yes w.if-is_inside.true in
          record {
            renewed = rw w.renewed-is (one_renewed ks fs c.loop-o.renewed known base o h w.renew_object.new.kept c.loop-o.changes.items
                w.renew_object.new.changes.items is w.in_ok-renew_object.ensures.renewed);
            changes = rw w.changes-is (one_noted ks fs c.loop-o.renewed known o c.loop-o.changes.items c.loop-o.invariant.changes same
                w.renew_object.new.changes.items is w.in_ok-renew_object.ensures.renewed.noted);
          }
      | else-is_inside w ↦
          let is = c.is_inside.ensures.no w.if-is_inside.false in
          record {
            renewed = rw w.renewed-is (one_left ks fs c.loop-o.renewed known base o h is);
            changes = rw w.changes-is (one_unnoted ks fs c.loop-o.renewed known o c.loop-o.changes.items c.loop-o.invariant.changes same is);
          }
    ]

pub returns : goal.returns
returns c =
    let all : c.loop-o.o ≡ length c.args.kept.now = omega (arith, c.loop-o-test.false, c.loop-o.auto.o-end, c.len-o-end.ensures) in
    record {
      base = c.greatest_stamp-base.result;
      greatest = c.greatest_stamp-base.ensures.greatest;
      renewed = rw (← all) c.loop-o.invariant.renewed;
      told = rw (← all) c.loop-o.invariant.changes;
    }
