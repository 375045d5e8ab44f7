use Rattle.std.proofs.Common.{map}
use Rattle.hd_terms.specs.SubRecords.{IsClassValue, value_text}
use Rattle.hd_subs.specs.Views.{constant_view}
use Rattle.hd_subs.specs.Parts.{typed_item}
use Rattle.hd_subs.proofs.Parts.{IsListSoFar}
use Rattle.hd_subs.proofs.class_reading.read_constants.Given as goal

abbrev pub invariant-loop-i : goal.invariant-loop-i
invariant-loop-i l = IsListSoFar (IsClassValue l.id_size 2) value_text (typed_item l.id_size 2) l.initial.rest.at l.initial.rest.rest.now l._i
    (map constant_view l.constants.items) l.rest.rest.now l.rest.at
