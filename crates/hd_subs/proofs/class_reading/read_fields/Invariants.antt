use Rattle.std.proofs.Common.{map}
use Rattle.hd_terms.specs.SubRecords.{IsClassField, field_text}
use Rattle.hd_subs.specs.Views.{field_view}
use Rattle.hd_subs.specs.Parts.{field_at}
use Rattle.hd_subs.proofs.Parts.{IsListSoFar}
use Rattle.hd_subs.proofs.class_reading.read_fields.Given as goal

abbrev pub invariant-loop-i : goal.invariant-loop-i
invariant-loop-i l = IsListSoFar (IsClassField l.id_size) field_text (field_at l.id_size) l.initial.rest.at l.initial.rest.rest.now l._i
    (map field_view l.fields.items) l.rest.rest.now l.rest.at
