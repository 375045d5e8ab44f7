use Rattle.std.proofs.Common.{◌≡◌, ◌+◌, drop, refl, ◌∙◌}
use Rattle.std.proofs.lemmas.List.{take_rest}
use Rattle.byteorder.specs.Endian.{big_number}
use Rattle.hd_terms.specs.Records.{id_len}
use Rattle.hd_subs.proofs.ParsedSubs.{count_in, begins_array}
use Rattle.hd_subs.proofs.reading.read_array.Goals as goal

pub returns : goal.returns
returns c =
    let behind = c.in_ok-after.ensures in
    let count : c.read_count.result ≡ count_in (id_len c.args.id_size) c.args.fields.now = rw (← c.bytes-id_len.ensures) c.read_count.ensures in
    let class : c.read-2.result ≡ big_number (id_len c.args.id_size) (drop (id_len c.args.id_size + 8) c.args.fields.now) =
    c.read-2.ensures ∙ rw (take_rest c.args.fields.now (c.bytes-id_len.result + 8), c.bytes-id_len.ensures) refl in
    rw (behind.after_is, ← count, c.kind_of_array.ensures)
    (begins_array c.args.id_size c.args.offset c.args.fields.now c.read.result c.read-2.result c.read_count.result
    (rw count behind.within) c.read.ensures class count)
