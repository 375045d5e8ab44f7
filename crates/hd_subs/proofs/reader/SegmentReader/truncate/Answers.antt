use Rattle.std.proofs.Common.{List, map, sym, ap, ◌∙◌}
use Rattle.std.proofs.lemmas.List.{take-map}
use Rattle.hd_terms.specs.SubRecords.{Sub}
use Rattle.hd_subs.specs.Packed.{sub_of_entry}
use Rattle.hd_subs.specs.Reading.{Reader}
use Rattle.hd_subs.proofs.reader.SegmentReader.truncate.Goals as goal

pub returns : goal.returns
returns c =
    let a = c.self.inside in
    rw (← c.self.view_is)
    (ap (λ (xs : List Sub). let r : Reader = record { bytes = a.bytes.now; size = a.id_size; subs = xs } in r)
    (ap (map (sub_of_entry a.id_size a.bytes.now a.rows)) c.truncate.ensures.items
    ∙ sym (take-map (sub_of_entry a.id_size a.bytes.now a.rows) c.args.len a.entries.items)))
