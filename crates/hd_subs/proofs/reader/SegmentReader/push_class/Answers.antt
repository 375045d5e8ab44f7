use Rattle.std.proofs.Common.{List, ap}
use Rattle.hd_terms.specs.SubRecords.{Sub, Class}
use Rattle.hd_subs.specs.Reading.{Reader}
use Rattle.hd_subs.specs.Views.{class_view}
use Rattle.hd_subs.proofs.EntryLemmas.{push-row}
use Rattle.hd_subs.proofs.reader.SegmentReader.push_class.Goals as goal

pub returns-clause-ok : goal.returns-clause-ok
returns-clause-ok c =
    let a = c.self.inside in
    rw (c.push_reserved.ensures.items, c.in_ok-reserve.ensures.items, c.in_ok-push_class.ensures.ok, ← c.self.view_is)
    (ap (λ (xs : List Sub). let r : Reader = record { bytes = a.bytes.now; size = a.id_size; subs = xs } in r)
    (push-row a.id_size a.bytes.now a.rows (record { offset = c.args.offset; item = Class (class_view c.args.class) }) a.entries.items c.in_ok-entry.entry
    c.self.invariant c.in_ok-entry.ensures))
