use Rattle.std.proofs.Common.{◌≡◌, ◌+◌, ◌*◌, drop, refl, ◌∙◌}
use Rattle.std.proofs.lemmas.List.{take_rest}
use Rattle.byteorder.specs.Endian.{big_number}
use Rattle.hd_terms.specs.Records.{id_len}
use Rattle.hd_subs.proofs.Heads.{short_head, begins_head}
use Rattle.hd_subs.proofs.class_reading.read_head.Goals as goal

pub returns-in_default : goal.returns-in_default
returns-in_default c = short_head c.args.id_size c.args.from.rest.now (rw (← c.bytes-id_len.ensures) c.in_default.ensures)

pub returns : goal.returns
returns c =
    let super : c.read-2.result ≡ big_number (id_len c.args.id_size) (drop (id_len c.args.id_size + 4) c.args.from.rest.now) =
    c.read-2.ensures ∙ rw (take_rest c.args.from.rest.now (c.bytes-id_len.result + 4), c.bytes-id_len.ensures) refl in
    let loader : c.read-3.result ≡ big_number (id_len c.args.id_size) (drop (2 * id_len c.args.id_size + 4) c.args.from.rest.now) =
    c.read-3.ensures ∙ rw (take_rest c.args.from.rest.now (2 * c.bytes-id_len.result + 4), c.bytes-id_len.ensures) refl in
    let signers : c.read-4.result ≡ big_number (id_len c.args.id_size) (drop (3 * id_len c.args.id_size + 4) c.args.from.rest.now) =
    c.read-4.ensures ∙ rw (take_rest c.args.from.rest.now (3 * c.bytes-id_len.result + 4), c.bytes-id_len.ensures) refl in
    let domain : c.read-5.result ≡ big_number (id_len c.args.id_size) (drop (4 * id_len c.args.id_size + 4) c.args.from.rest.now) =
    c.read-5.ensures ∙ rw (take_rest c.args.from.rest.now (4 * c.bytes-id_len.result + 4), c.bytes-id_len.ensures) refl in
    rw (c.in-Some.ensures.1, c.in-Some.ensures.2, c.bytes-id_len.ensures)
    (begins_head c.args.id_size c.args.from.at c.args.from.rest.now c.read.result c.read-2.result c.read-3.result c.read-4.result c.read-5.result
    (rw (← c.bytes-id_len.ensures) c.in-Some.ensures.0) c.read.ensures super loader signers domain)
