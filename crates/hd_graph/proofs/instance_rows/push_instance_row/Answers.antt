-- By what the layout says of the bytes: a fitting instance has its references and its class in a row, one of another size
-- and one of an unknown class have the class alone.
use Rattle.std.proofs.Common.{◌≡◌, ◌∙◌, ◌+◌, ◌≤◌, ℕ, List, Option, length, ap, sym, subst, arith}
use Rattle.hd_terms.specs.declared.IdSize.{IdSize}
use Rattle.hd_terms.specs.Classes as classes_of
use Rattle.hd_terms.specs.Classes.{LayoutField, layout_len}
use Rattle.hd_subs.specs.Layout.{class_offset}
use Rattle.hd_classes.specs.Known.{known_at}
use Rattle.hd_slots.specs.Table.{HasIdAt}
use Rattle.hd_graph.specs.ArrayRows.{instance_row, instance_entry}
use Rattle.hd_graph.specs.Building.{AddsRow}
use Rattle.hd_graph.proofs.InstanceLemmas.{fitting-len, fields-le-bytes}
use Rattle.hd_graph.proofs.PlaceLemmas.{fits-layout, length-numbered}
use Rattle.hd_graph.proofs.AddedLemmas.{added-more}
use Rattle.hd_graph.proofs.instance_rows.push_instance_row.Goals as goal

pub push_row-requires-clause-class : goal.push_row-requires-clause-class
push_row-requires-clause-class c =
    let t = c.args.slot_table.now in
    let there : c.class_offset-class_at.result ≡ class_offset t.size c.args.offset = c.class_offset-class_at.ensures
    ∙ ap (λ (n : IdSize). class_offset n c.args.offset) c.id_size.ensures.size in
    subst (λ (offset : ℕ). HasIdAt t.bytes t.size offset c.args.class) (sym there) c.requires.class

pub push_row-requires-clause-within : goal.push_row-requires-clause-within
push_row-requires-clause-within c =
    let size = c.args.slot_table.now.size in
    let by = fits-layout size c.args.values.len c.in-Class.number c.args.class c.args.layouts.now c.fit-fit.new.self c.requires.size c.fit-fit.ensures.same
    c.in-Class.ensures.fit in
    let bytes = fitting-len size c.args.values.len (known_at c.args.layouts.now.classes c.args.class) by.0 by.1 in
    omega (arith, length-numbered size c.fit-fit.new.self.classes c.in-Class.number, ap (layout_len size) by.2, bytes, c.requires.within)

pub push_row-requires-clause-room : goal.push_row-requires-clause-room
push_row-requires-clause-room c =
    let size = c.args.slot_table.now.size in
    let by = fits-layout size c.args.values.len c.in-Class.number c.args.class c.args.layouts.now c.fit-fit.new.self c.requires.size c.fit-fit.ensures.same
    c.in-Class.ensures.fit in
    let bytes = fitting-len size c.args.values.len (known_at c.args.layouts.now.classes c.args.class) by.0 by.1 in
    omega (arith, ap (λ (fs : List LayoutField). length fs) by.2, bytes, fields-le-bytes size by.0.layout, c.requires.room)

pub returns-in_ok-push_row-in-Class-clause-row : goal.returns-in_ok-push_row-in-Class-clause-row
returns-in_ok-push_row-in-Class-clause-row c = λ id.
    let t = c.args.slot_table.now in
    let size = t.size in
    let start = c.args.values.start in
    let new = c.push_row.new.slot_table in
    let by = fits-layout size c.args.values.len c.in-Class.number c.args.class c.args.layouts.now c.fit-fit.new.self c.requires.size c.fit-fit.ensures.same
    c.in-Class.ensures.fit in
    let layout = by.0.layout in
    let bytes = fitting-len size c.args.values.len (known_at c.args.layouts.now.classes c.args.class) by.0 by.1 in
    let few : length layout + 1 ≤ 1 + c.args.values.len = omega (arith, bytes, fields-le-bytes size layout) in
    let added : AddsRow (instance_row t.bytes size start c.args.class layout) (length layout + 1) t new =
    subst (λ (fs : List LayoutField). AddsRow (instance_row t.bytes size start c.args.class fs) (length fs + 1) t new) by.2
    c.in_ok-push_row-in-Class.ensures.row in
    subst (λ (o : Option classes_of.ResolvedClass). AddsRow (instance_entry t.bytes size id c.args.class c.args.values o).1 (1 + c.args.values.len) t new)
    (sym by.1)
    (added-more (instance_row t.bytes size start c.args.class layout) (length layout + 1) (1 + c.args.values.len) t new few added)
