-- One event after another: its live edit, if it has one, adds its slot, its kind, its field or its root to what is taken away.
-- Each of the four parts follows the edits before event k by a lemma of its own.
use Rattle.std.proofs.Common.{◌+◌, ◌<◌, length, subst, arith}
use Rattle.hd_terms.specs.Log.{live_edits}
use Rattle.hd_strength.specs.Removed.{AreSlots, AreKinds, AreFields, AreRoots}
use Rattle.hd_strength.proofs.RemovedLemmas.{no_slots, no_fields, no_roots, slots_more, kinds_more, fields_more, roots_more}
use Rattle.hd_strength.proofs.RemovedLemmas.{slots_sorted, fields_sorted, roots_sorted, one_more, no_edit, all_before, edits_before, is_removed_by}
use Rattle.hd_strength.proofs.removed.Removed.of.Goals as goal
use Rattle.hd_strength.proofs.removed.Removed.of.Goals.{in-Some+in_ok-push_number+in_ok-cleared+in_ok-push_number-2+in_ok-push_number-3, in_default}

pub loop-k-init : goal.loop-k-init
loop-k-init c =
    record {
      slots = no_slots c.args.graph.now _ c.new-slots.ensures.items;
      cleared = c.none-cleared.ensures;
      fields = no_fields _ c.new-fields.ensures.items;
      roots = no_roots _ c.new-roots.ensures.items;
    }

pub loop-k-preserved : goal.loop-k-preserved
loop-k-preserved c =
    let log = c.args.front.now in
    let k = c.loop-k.k in
    let es = edits_before log k in
    let fs = edits_before log (k + 1) in
    let r = c.live_edit.result in
    let lt : k < length log = omega (arith, c.len-k-end.ensures.len, c.loop-k-test.true) in
    elim c.match-live_edit.branch [
      | in-Some+in_ok-push_number+in_ok-cleared+in_ok-push_number-2+in_ok-push_number-3 w ↦
          let edit = w.in-Some.edit in
          let one = one_more log k r lt c.live_edit.ensures edit w.in-Some.is in
          rw (w.slots-is, w.cleared-is, w.fields-is, w.roots-is) (record {
            slots =
                slots_more es fs edit one c.args.graph.now w.edited_key.result c.loop-k.slots.items w.push_number.new.numbers.items
                w.edited_key.ensures w.in_ok-push_number.ensures c.loop-k.invariant.slots;
            cleared = kinds_more es fs edit one c.loop-k.cleared w.in_ok-cleared.cleared w.in_ok-cleared.ensures c.loop-k.invariant.cleared;
            fields =
                fields_more es fs edit one w.field_key.result c.loop-k.fields.items w.push_number-in-Some.new.numbers.items
                w.field_key.ensures w.in_ok-push_number-2.ensures c.loop-k.invariant.fields;
            roots =
                roots_more es fs edit one w.dropped_root.result c.loop-k.roots.items w.push_number-in-Some-2.new.numbers.items
                w.dropped_root.ensures w.in_ok-push_number-3.ensures c.loop-k.invariant.roots;
          })
      | in_default w ↦ rw (w.slots-is, w.cleared-is, w.fields-is, w.roots-is, no_edit log k r lt c.live_edit.ensures w.in_default.is) (record {
        slots = c.loop-k.invariant.slots;
        cleared = c.loop-k.invariant.cleared;
        fields = c.loop-k.invariant.fields;
        roots = c.loop-k.invariant.roots;
      })
    ]

pub returns : goal.returns
returns c =
    let dump = c.args.graph.now in
    let log = c.args.front.now in
    let all = all_before log c.loop-k.k (omega arith) in
    is_removed_by dump log _
    (slots_sorted dump (live_edits log) c.loop-k.slots.items c.of.result c.of.ensures
    (subst (λ es. AreSlots dump es c.loop-k.slots.items) all c.loop-k.invariant.slots))
    (subst (λ es. AreKinds es c.loop-k.cleared) all c.loop-k.invariant.cleared)
    (fields_sorted (live_edits log) c.loop-k.fields.items c.of-2.result c.of-2.ensures
    (subst (λ es. AreFields es c.loop-k.fields.items) all c.loop-k.invariant.fields))
    (roots_sorted (live_edits log) c.loop-k.roots.items c.of-3.result c.of-3.ensures
    (subst (λ es. AreRoots es c.loop-k.roots.items) all c.loop-k.invariant.roots))
