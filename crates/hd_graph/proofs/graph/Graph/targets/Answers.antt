use Rattle.std.proofs.Common.{◌∙◌, ℕ, ◌<◌, List, length, map, get_or, Option, None, ap, arith}
use Rattle.std.proofs.lemmas.List.{get_or-map}
use Rattle.std.proofs.lemmas.Option.{slice_get_within, get_or_from_slice_get}
use Rattle.hd_terms.specs.Dump.{Dump, SlotEntry, object_at}
use Rattle.hd_terms.specs.Edges.{index_of}
use Rattle.hd_graph.specs.Shapes.{row_objects}
use Rattle.hd_graph.proofs.ArrayLemmas.{length-row_objects}
use Rattle.hd_graph.proofs.SlotLemmas.{targets-here}
use Rattle.hd_graph.proofs.graph.Graph.targets.Goals as goal

pub targets-requires : goal.targets-requires
targets-requires c =
    let a = c.self.inside in
    let lt : c.args.o < length (row_objects a.shapes.objects a.slot_table.ids a.slot_table.rows) = rw (← c.self.view_is) at c.requires in
    let few = length-row_objects a.shapes.objects a.slot_table.ids a.slot_table.rows c.self.invariant.columns in
    omega (arith, few, c.self.invariant.columns.rows)

pub returns-clause-all : goal.returns-clause-all
returns-clause-all c =
    let a = c.self.inside in
    let lt : c.args.o < length (row_objects a.shapes.objects a.slot_table.ids a.slot_table.rows) = rw (← c.self.view_is) at c.requires in
    c.targets.ensures
    ∙ targets-here a.shapes.objects a.slot_table.ids a.slot_table.rows c.self.invariant.columns c.args.o lt
    ∙ ap (λ (dump : Dump). map (λ (s : SlotEntry). index_of dump.objects s.id) (object_at dump c.args.o).slots) c.self.view_is

pub returns-clause-each : goal.returns-clause-each
returns-clause-each c i s at =
    let dump = c.args.self.now in
    let entries = (object_at dump c.args.o).slots in
    let by_entry : SlotEntry → Option ℕ = λ e. index_of dump.objects e.id in
    ap (λ (ts : List (Option ℕ)). get_or ts i None) (returns-clause-all c)
    ∙ get_or-map by_entry entries i s None (slice_get_within entries i s at)
    ∙ ap by_entry (get_or_from_slice_get entries i s s at)
