use Rattle.std.proofs.Common.{◌∙◌, List, ap, sym}
use Rattle.std.specs.List.{position}
use Rattle.hd_terms.specs.declared.Slot.{Slot}
use Rattle.hd_terms.specs.EditedDump.{same_slot}
use Rattle.hd_graph.specs.Shapes.{shape_index}
use Rattle.hd_shapes.specs.PackedShapes.{shape_view}
use Rattle.hd_graph.proofs.graph.index_in.Goals as goal

pub returns-in-Class : goal.returns-in-Class
returns-in-Class c =
    c.index_among.ensures
    ∙ ap (λ (names : List Slot). position (λ (name : Slot). same_slot name c.args.slot) names) c.as_slice.ensures.value
    ∙ ap (λ s. shape_index (shape_view s) c.args.len c.args.slot) (sym c.in-Class.is)

pub returns-in-Instance : goal.returns-in-Instance
returns-in-Instance c =
    c.index_among-in-Instance.ensures
    ∙ ap (λ (names : List Slot). position (λ (name : Slot). same_slot name c.args.slot) names) c.as_slice-in-Instance.ensures.value
    ∙ ap (λ s. shape_index (shape_view s) c.args.len c.args.slot) (sym c.in-Instance.is)
