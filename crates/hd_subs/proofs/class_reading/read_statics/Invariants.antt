use Rattle.std.proofs.Common.{map}
use Rattle.hd_terms.specs.Records.{id_len}
use Rattle.hd_terms.specs.SubRecords.{IsClassValue, value_text}
use Rattle.hd_subs.specs.Views.{static_view}
use Rattle.hd_subs.specs.Parts.{static_item}
use Rattle.hd_subs.proofs.Parts.{IsListSoFar}
use Rattle.hd_subs.proofs.class_reading.read_statics.Given as goal

abbrev pub invariant-loop-i : goal.invariant-loop-i
invariant-loop-i l = IsListSoFar (IsClassValue l.id_size (id_len l.id_size)) value_text (static_item l.id_size) l.initial.rest.at l.initial.rest.rest.now l._i
    (map static_view l.statics.items) l.rest.rest.now l.rest.at
