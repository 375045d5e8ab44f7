use Rattle.std.proofs.Common.{◌≡◌, ◌+◌, ◌*◌, true, get_or, refl, arith}
use Rattle.std.proofs.lemmas.List.{take_rest}
use Rattle.hd_terms.specs.Records.{id_len}
use Rattle.hd_terms.specs.Types.{is_element_type, element_len}
use Rattle.hd_subs.specs.Layout.{primitive_array_len}
use Rattle.hd_subs.proofs.ParsedSubs.{count_in, short_primitive_fields, unknown_type, short_primitive}
use Rattle.hd_subs.proofs.reading.behind_primitive_array.Goals as goal

pub returns-then-fields-id_len-clause-err : goal.returns-then-fields-id_len-clause-err
returns-then-fields-id_len-clause-err c = short_primitive_fields c.args.id_size c.args.fields.now (omega arith)

pub returns-in_default-clause-err : goal.returns-in_default-clause-err
returns-in_default-clause-err c = unknown_type c.args.id_size c.args.fields.now (omega arith) (rw (← c.bytes-id_len.ensures) c.in_default.ensures)

pub returns-then-fields-len-clause-err : goal.returns-then-fields-len-clause-err
returns-then-fields-len-clause-err c =
    let count : c.read_count.result ≡ count_in (id_len c.args.id_size) c.args.fields.now = rw (← c.bytes-id_len.ensures) c.read_count.ensures in
    let told : (is_element_type (get_or c.args.fields.now (id_len c.args.id_size + 8) 0) ≡ true)
    × (c.in-Some.element_bytes ≡ element_len (get_or c.args.fields.now (id_len c.args.id_size + 8) 0)) =
    rw (← c.bytes-id_len.ensures) c.in-Some.ensures in
    short_primitive c.args.id_size c.args.fields.now (get_or c.args.fields.now (id_len c.args.id_size + 8) 0) (omega arith) refl told.0
    (rw (← count, ← told.1, ← c.bytes-id_len.ensures) c.if-fields-len.true)

pub returns-clause-ok : goal.returns-clause-ok
returns-clause-ok c =
    let count : c.read_count.result ≡ count_in (id_len c.args.id_size) c.args.fields.now = rw (← c.bytes-id_len.ensures) c.read_count.ensures in
    let told : (is_element_type (get_or c.args.fields.now (id_len c.args.id_size + 8) 0) ≡ true)
    × (c.in-Some.element_bytes ≡ element_len (get_or c.args.fields.now (id_len c.args.id_size + 8) 0)) =
    rw (← c.bytes-id_len.ensures) c.in-Some.ensures in
    let len : c.bytes-id_len.result + 9 + c.in-Some.element_bytes * c.read_count.result ≡ primitive_array_len c.args.id_size c.args.fields.now =
    rw (count, told.1, c.bytes-id_len.ensures) refl in (
      record {
        within = rw (← len) c.if-fields-len.false;
        after_is =
            rw (← len) (take_rest c.args.fields.now (c.bytes-id_len.result + 9 + c.in-Some.element_bytes * c.read_count.result));
      },
      told.0,
    )
