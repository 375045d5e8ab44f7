-- What the file is read as goes from one step to the next: numbers and rows of all sub-records, then those of the first
-- of each ID, then the graph of them (`opened`, `opened-named`). Each fault is the first of the objects.
use Rattle.std.proofs.Common.{◌∙◌, ap}
use Rattle.std.proofs.lemmas.Result.{err_from_is_err_and}
use Rattle.hd_classes.specs.declared.repeats.RepeatedRecords.{RepeatedRecords}
use Rattle.hd_graph.specs.Building.{columns}
use Rattle.hd_graph.proofs.OpenLemmas.{names-within, list-within, few-and-short, object-fault, few-ids, few-roots, whole-columns, small-shapes, opened}
use Rattle.hd_graph.proofs.OpenLemmas.{opened-named}
use Rattle.hd_graph.proofs.graph.Graph.build.Goals as goal

pub names_of-requires : goal.names_of-requires
names_of-requires g c = names-within c.args.bytes.now c.args.records.id_size _ _ c.args.records.segments c.requires.records c.args.list c.requires.list
    c.args.classes c.requires.classes c.requires.no_cycle

pub numbers_and_rows-requires-clause-within : goal.numbers_and_rows-requires-clause-within
numbers_and_rows-requires-clause-within g c κs within =
    list-within c.args.bytes.now c.args.records.id_size _ _ c.args.records.segments c.requires.records c.args.list c.requires.list

pub numbers_and_rows-requires-clause-classes : goal.numbers_and_rows-requires-clause-classes
numbers_and_rows-requires-clause-classes g c κs within =
    let k = few-and-short c.args.bytes.now c.args.records.id_size _ _ c.args.records.segments c.requires.records c.args.list c.requires.list c.args.classes
    c.requires.classes c.requires.no_cycle in
    rw c.without_names-classes.ensures (record { few = k.few; short = k.short })

pub returns-in_err-numbered-clause-err : goal.returns-in_err-numbered-clause-err
returns-in_err-numbered-clause-err g c =
    let p = err_from_is_err_and c.from_residual-in_err-numbered.result c.from_residual-in_err-numbered.ensures.1 in
    rw (p.1, p.2) (object-fault c.args.bytes.now c.args.records.id_size _ _ c.args.records.segments c.requires.records c.args.list c.requires.list
    c.args.classes c.requires.classes c.requires.no_cycle c.in_err-numbered.field-0.0 (rw c.without_names-classes.ensures at c.in_err-numbered.ensures.err))

pub rows_of-requires-clause-few : goal.rows_of-requires-clause-few
rows_of-requires-clause-few g c =
    few-ids c.args.bytes.now c.args.records.id_size _ _ c.args.records.segments c.requires.records c.args.list c.requires.list c.args.classes c.requires.classes
    c.requires.no_cycle _ _ _ (rw c.without_names-classes.ensures at c.in_ok-numbered.ensures.numbers)

pub rows_of-requires-clause-within : goal.rows_of-requires-clause-within
rows_of-requires-clause-within g c =
    list-within c.args.bytes.now c.args.records.id_size _ _ c.args.records.segments c.requires.records c.args.list c.requires.list

pub rows_of-requires-clause-classes : goal.rows_of-requires-clause-classes
rows_of-requires-clause-classes g c =
    let k = few-and-short c.args.bytes.now c.args.records.id_size _ _ c.args.records.segments c.requires.records c.args.list c.requires.list c.args.classes
    c.requires.classes c.requires.no_cycle in
    rw c.without_names-classes.ensures (record { few = k.few; short = k.short })

pub new-requires-clause-columns : goal.new-requires-clause-columns
new-requires-clause-columns g c =
    rw c.in_ok-slot_table-2.ensures
    (whole-columns c.args.bytes.now c.args.records.id_size _ _ c.args.records.segments c.requires.records c.args.list c.requires.list c.args.classes
    c.requires.classes c.requires.no_cycle _ _ _ (rw c.without_names-classes.ensures at c.in_ok-numbered.ensures.numbers)
    (columns c.in_ok-slot_table.field-0.slot_table c.in_ok-slot_table.field-0.shapes.objects)
    (rw c.without_names-classes.ensures at c.in_ok-slot_table.ensures))

pub new-requires-clause-small : goal.new-requires-clause-small
new-requires-clause-small g c =
    small-shapes c.args.bytes.now c.args.records.id_size _ _ c.args.records.segments c.requires.records c.args.list c.requires.list c.args.classes
    c.requires.classes c.requires.no_cycle _ _ _ (rw c.without_names-classes.ensures at c.in_ok-numbered.ensures.numbers)
    (columns c.in_ok-slot_table.field-0.slot_table c.in_ok-slot_table.field-0.shapes.objects) (rw c.without_names-classes.ensures at c.in_ok-slot_table.ensures)

pub new-requires-clause-few_roots : goal.new-requires-clause-few_roots
new-requires-clause-few_roots g c =
    few-roots c.args.bytes.now c.args.records.id_size _ _ c.args.records.segments c.requires.records c.args.list c.requires.list c.args.classes
    c.requires.classes c.requires.no_cycle _ _ _ (rw c.without_names-classes.ensures at c.in_ok-numbered.ensures.numbers)

pub returns-clause-ok : goal.returns-clause-ok
returns-clause-ok g c = rw (c.new.ensures, c.in_ok-slot_table-2.ensures)
    (opened c.args.bytes.now c.args.records.id_size _ _ c.args.records.segments c.requires.records c.args.list c.requires.list c.args.classes c.requires.classes
    c.requires.no_cycle _ _ _ (rw c.without_names-classes.ensures at c.in_ok-numbered.ensures.numbers)
    (columns c.in_ok-slot_table.field-0.slot_table c.in_ok-slot_table.field-0.shapes.objects)
    (rw c.without_names-classes.ensures at c.in_ok-slot_table.ensures) c.args.mode _ c.in_ok-names.ensures _ _
    (ap (λ (r : RepeatedRecords). r.texts) (c.repeated-texts.ensures ∙ c.requires.classes.repeated))
    (ap (λ (r : RepeatedRecords). r.loads) (c.repeated-texts.ensures ∙ c.requires.classes.repeated)))

pub returns-clause-named : goal.returns-clause-named
returns-clause-named g c = rw (c.new.ensures, c.in_ok-slot_table-2.ensures)
    (opened-named c.args.bytes.now c.args.records.id_size _ _ c.args.records.segments c.requires.records c.args.list c.requires.list c.args.classes
    c.requires.classes c.requires.no_cycle _ _ _ (rw c.without_names-classes.ensures at c.in_ok-numbered.ensures.numbers)
    (columns c.in_ok-slot_table.field-0.slot_table c.in_ok-slot_table.field-0.shapes.objects)
    (rw c.without_names-classes.ensures at c.in_ok-slot_table.ensures) c.args.mode _ c.in_ok-names.ensures _ _
    (ap (λ (r : RepeatedRecords). r.texts) (c.repeated-texts.ensures ∙ c.requires.classes.repeated))
    (ap (λ (r : RepeatedRecords). r.loads) (c.repeated-texts.ensures ∙ c.requires.classes.repeated)))
