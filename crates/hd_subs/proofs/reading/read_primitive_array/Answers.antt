use Rattle.std.proofs.Common.{◌≡◌, ◌+◌, get_or, refl}
use Rattle.hd_terms.specs.Records.{id_len}
use Rattle.hd_subs.proofs.ParsedSubs.{count_in, begins_primitive}
use Rattle.hd_subs.proofs.reading.read_primitive_array.Goals as goal

pub returns-clause-ok : goal.returns-clause-ok
returns-clause-ok c =
    let behind = c.in-Ok.ensures.ok.0 in
    let count : c.read_count.result ≡ count_in (id_len c.args.id_size) c.args.fields.now = rw (← c.bytes-id_len.ensures) c.read_count.ensures in
    rw (behind.after_is, ← count, c.bytes-id_len.ensures)
    (begins_primitive c.args.id_size c.args.offset c.args.fields.now (get_or c.args.fields.now (id_len c.args.id_size + 8) 0) c.read.result c.read_count.result
    (rw count behind.within) refl c.in-Ok.ensures.ok.1 c.read.ensures count)
