use Rattle.std.proofs.Common.{map, take}
use Rattle.hd_subs.specs.declared.class.Static.{Static}
use Rattle.hd_classes.specs.Sources.{table_of}
use Rattle.hd_classes.specs.Naming.{NotesMore, AreNumbers}
use Rattle.hd_classes.proofs.name_numbers.NameNumbers.of_statics.Given as goal

-- the statics so far
abbrev pub invariant-loop-item : goal.invariant-loop-item
invariant-loop-item l = record {
  more : NotesMore (table_of l.source) l.initial.self l.self;
  are : AreNumbers (table_of l.source) l.self.texts (map (λ (s : Static). s.name) (take l.item-index l.statics)) l.numbers.items;
}
