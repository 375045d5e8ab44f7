-- A class object has its statics, its constants and its super class in one row, each pushed behind the others.
-- There is room, since each has bytes of its own in the file.
use Rattle.std.proofs.Common.{◌∙◌, ℕ, List, length, map, ap, sym, subst, arith}
use Rattle.std.proofs.lemmas.List.{length-map}
use Rattle.hd_terms.specs.declared.IdSize.{IdSize}
use Rattle.hd_subs.specs.declared.class.Static.{Static}
use Rattle.hd_subs.specs.declared.class.Constant.{Constant}
use Rattle.hd_subs.specs.Layout.{class_offset}
use Rattle.hd_subs.specs.Views.{static_view, constant_view, class_view}
use Rattle.hd_graph.specs.ArrayRows.{HasLinks, values_of_statics, values_of_constants, value_ids}
use Rattle.hd_graph.specs.Building.{GrowsBy}
use Rattle.hd_graph.proofs.ValueLemmas.{length-static-values, length-constant-values}
use Rattle.hd_graph.proofs.AddedLemmas.{grown-room, class-added}
use Rattle.hd_graph.proofs.class_rows.push_class_row.Goals as goal

pub push_constants-requires-clause-room : goal.push_constants-requires-clause-room
push_constants-requires-clause-room c =
    let first = c.args.slot_table.now in
    let grown = grown-room first.bytes first.size
    (values_of_statics (map static_view c.as_slice.result.now)) first c.push_statics.new.slot_table c.in_ok-push_statics.ensures in
    omega (
      arith,
      grown.0,
      grown.1,
      length-static-values c.as_slice.result.now,
      ap (λ (xs : List Static). length xs) c.as_slice.ensures.value,
      ap (λ (xs : List Constant). length xs) c.as_slice-2.ensures.value,
      length-map c.args.class.now.statics.items static_view,
      length-map c.args.class.now.constants.items constant_view,
      c.requires.room,
    )

pub push_links-requires-clause-room : goal.push_links-requires-clause-room
push_links-requires-clause-room c =
    let first = c.args.slot_table.now in
    let second = c.push_statics.new.slot_table in
    let grown = grown-room first.bytes first.size (values_of_statics (map static_view c.as_slice.result.now)) first second c.in_ok-push_statics.ensures in
    let more = grown-room second.bytes second.size (values_of_constants (map constant_view c.as_slice-2.result.now)) second c.push_constants.new.slot_table
    c.in_ok-push_constants.ensures in
    omega (
      arith,
      grown.0,
      grown.1,
      more.0,
      more.1,
      length-static-values c.as_slice.result.now,
      length-constant-values c.as_slice-2.result.now,
      ap (λ (xs : List Static). length xs) c.as_slice.ensures.value,
      ap (λ (xs : List Constant). length xs) c.as_slice-2.ensures.value,
      length-map c.args.class.now.statics.items static_view,
      length-map c.args.class.now.constants.items constant_view,
      c.requires.room,
    )

pub returns : goal.returns
returns c =
    let first = c.args.slot_table.now in
    let second = c.push_statics.new.slot_table in
    let third = c.push_constants.new.slot_table in
    class-added c.args.class.now c.class_offset-links.result first second third c.push_links.new.slot_table c.end_row.new.self
    c.requires.filled
    (subst (λ (n : ℕ). HasLinks first.bytes first.size n (class_view c.args.class.now))
    (sym (c.class_offset-links.ensures ∙ ap (λ (size : IdSize). class_offset size c.args.offset) c.id_size.ensures.size)) c.requires.links)
    (subst (λ (xs : List Static). GrowsBy (value_ids first.bytes first.size (values_of_statics (map static_view xs))) first second) c.as_slice.ensures.value
    c.in_ok-push_statics.ensures)
    (subst (λ (xs : List Constant). GrowsBy (value_ids second.bytes second.size (values_of_constants (map constant_view xs))) second third)
    c.as_slice-2.ensures.value c.in_ok-push_constants.ensures)
    c.in_ok-push_links.ensures
    c.in_ok-end_row.ensures
