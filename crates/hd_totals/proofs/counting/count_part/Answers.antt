-- One object after another: its group has one more in its row, and its page notes the group, by both buckets.
-- There is room, since no count and no sum of bytes passes that of all objects.
use Rattle.std.proofs.Common.{◌≡◌, ◌∙◌, ◌-◌, ◌/◌, ◌%◌, ◌≤◌, ◌^◌, inl, inr, ℕ, length, sym, ap, subst, arith}
use Rattle.std.proofs.lemmas.Bool.{cases_lt}
use Rattle.std.proofs.lemmas.List.{length-replicate, length-set}
use Rattle.hd_terms.specs.declared.Group.{Group}
use Rattle.hd_terms.specs.declared.Strength.{Strength}
use Rattle.hd_terms.specs.Dump.{object_at}
use Rattle.hd_terms.specs.Listed.{group_key}
use Rattle.hd_terms.specs.Records.{largest_file}
use Rattle.hd_totals.specs.Counting.{AreTotalsBetween}
use Rattle.hd_totals.specs.GroupPages.{PageMarks, AreNotedBetween, HasBucket, IsNoted}
use Rattle.hd_totals.specs.LastChanges.{page_of}
use Rattle.hd_totals.specs.Members.{InRange}
use Rattle.hd_totals.specs.Running.{strength_in, plus_one, IsRowPut}
use Rattle.hd_totals.specs.Totals.{Totals, total_for, row_at}
use Rattle.hd_totals.proofs.CountingLemmas.{none-between, one-more-between}
use Rattle.hd_totals.proofs.counting.count_part.Goals as goal

pub count_object-requires-clause-count : goal.count_object-requires-clause-count
count_object-requires-clause-count c =
    let t : Totals = record { keys = c.loop-o.keys; rows = c.loop-o.rows.items } in
    let s = c.strength-strength.result in
    let few = c.loop-o.invariant.totals.few c.group_of-group.result s c.key_of-key.ensures.range in
    let same = ap (λ (k : ℕ). (total_for (row_at t k) s).count) c.key_of-key.ensures.key in
    omega (arith, few, same)

pub count_object-requires-clause-bytes : goal.count_object-requires-clause-bytes
count_object-requires-clause-bytes c =
    let t : Totals = record { keys = c.loop-o.keys; rows = c.loop-o.rows.items } in
    let s = c.strength-strength.result in
    let light = c.loop-o.invariant.totals.light c.group_of-group.result s c.key_of-key.ensures.range in
    let same = ap (λ (k : ℕ). (total_for (row_at t k) s).bytes) c.key_of-key.ensures.key in
    let small = c.bytes_of-bytes.ensures.small in
    omega (arith, light, same, small)

pub loop-o-init : goal.loop-o-init
loop-o-init c = record {
  totals = rw (c.new-keys.ensures, c.new-rows.ensures.items) (none-between c.args.graph.now (strength_in c.args.supports.now) c.args.start);
  room = ap (λ (p : PageMarks). length p.least) c.in_ok-pages.ensures ∙ length-replicate c.div_ceil.result (2 ^ 64 - 1) ∙ omega (arith, c.div_ceil.ensures);
  noted = λ x le lt. absurd (omega (arith, le, lt));
  places = omega (arith, c.in_ok-places.ensures.len, c.in_ok-places.places.ok);
}

pub loop-o-preserved : goal.loop-o-preserved
loop-o-preserved c =
    let dump = c.args.graph.now in
    let st = strength_in c.args.supports.now in
    let o = c.loop-o.o in
    let t : Totals = record { keys = c.loop-o.keys; rows = c.loop-o.rows.items } in
    let t' : Totals = record { keys = c.count_object.new.keys; rows = c.count_object.new.rows.items } in
    let key_is : c.key_of-key.result ≡ group_key (object_at dump o).group = c.key_of-key.ensures.key ∙ ap group_key c.group_of-group.ensures in
    let put : IsRowPut t t' (group_key (object_at dump o).group) (plus_one (row_at t (group_key (object_at dump o).group)) (st o) (object_at dump o).bytes) =
    subst (λ (k : ℕ). IsRowPut t t' k (plus_one (row_at t k) (st o) (object_at dump o).bytes)) key_is
    (subst (λ (s : Strength). IsRowPut t t' c.key_of-key.result (plus_one (row_at t c.key_of-key.result) s (object_at dump o).bytes))
    c.strength-strength.ensures
    (subst (λ (n : ℕ). IsRowPut t t' c.key_of-key.result (plus_one (row_at t c.key_of-key.result) c.strength-strength.result n)) c.bytes_of-bytes.ensures.bytes
    c.in_ok-places-2.ensures)) in
    let range = subst InRange c.group_of-group.ensures c.key_of-key.ensures.range in
    let small = subst (λ (n : ℕ). n ≤ largest_file) c.bytes_of-bytes.ensures.bytes c.bytes_of-bytes.ensures.small in
    record {
      totals = one-more-between dump st c.args.start o t t' c.loop-o.invariant.totals (omega arith) range small put;
      room = c.note.ensures.count ∙ c.loop-o.invariant.room;
      places = length-set c.loop-o.places.items (c.buckets_of-buckets.result.0 % 256) c.in_ok-places-2.field-0 ∙ c.loop-o.invariant.places;
      noted = λ x le lt. elim (cases_lt x o) [
        | inl earlier ↦ c.note.ensures.kept (page_of x - page_of c.args.start) (object_at dump x).group (object_at dump x).id
            (c.loop-o.invariant.noted x le earlier)
        | inr last ↦
            let same : x ≡ o = omega (arith, lt, last) in
            let page : (o - c.args.start) / 1024 ≡ page_of o - page_of c.args.start = omega (arith, c.requires.page, c.requires.order) in
            let at : ℕ = (o - c.args.start) / 1024 in
            let first = subst (λ (b : ℕ). HasBucket c.note.new.self.marks at b) c.buckets_of-buckets.ensures.first c.note.ensures.marked.0 in
            let second = subst (λ (b : ℕ). HasBucket c.note.new.self.marks at b) c.buckets_of-buckets.ensures.second c.note.ensures.marked.1 in
            let noted : IsNoted c.note.new.self at c.group_of-group.result c.id_of.result = record { marked = (first, second); above = c.note.ensures.above } in
            let here : IsNoted c.note.new.self at (object_at dump o).group (object_at dump o).id =
            subst (λ (g : Group). IsNoted c.note.new.self at g (object_at dump o).id) c.group_of-group.ensures
            (subst (λ (id : ℕ). IsNoted c.note.new.self at c.group_of-group.result id) c.id_of.ensures noted) in
            let there : IsNoted c.note.new.self (page_of o - page_of c.args.start) (object_at dump o).group (object_at dump o).id =
            subst (λ (n : ℕ). IsNoted c.note.new.self n (object_at dump o).group (object_at dump o).id) page here in
            subst (λ (y : ℕ). IsNoted c.note.new.self (page_of y - page_of c.args.start) (object_at dump y).group (object_at dump y).id) (sym same) there
      ];
    }

pub returns : goal.returns
returns c =
    let dump = c.args.graph.now in
    let end : c.loop-o.o ≡ c.args.end = omega arith in
    record {
      counted = subst (λ (k : ℕ). AreTotalsBetween dump (strength_in c.args.supports.now) c.args.start k
          (record { keys = c.loop-o.keys; rows = c.loop-o.rows.items })) end c.loop-o.invariant.totals;
      room = c.loop-o.invariant.room;
      noted = subst (λ (k : ℕ). AreNotedBetween dump c.args.start k c.loop-o.pages) end c.loop-o.invariant.noted;
    }
