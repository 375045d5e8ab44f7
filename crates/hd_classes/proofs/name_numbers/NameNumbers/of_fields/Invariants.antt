use Rattle.std.proofs.Common.{map, take}
use Rattle.hd_classes.specs.declared.known.LayoutField.{LayoutField}
use Rattle.hd_classes.specs.Sources.{table_of}
use Rattle.hd_classes.specs.Naming.{NotesMore, AreNumbers}
use Rattle.hd_classes.proofs.name_numbers.NameNumbers.of_fields.Given as goal

-- the fields so far
abbrev pub invariant-loop-field : goal.invariant-loop-field
invariant-loop-field l = record {
  more : NotesMore (table_of l.source) l.initial.self l.self;
  are : AreNumbers (table_of l.source) l.self.texts (map (λ (f : LayoutField). f.name) (take l.field-index l.fields)) l.numbers.items;
}
