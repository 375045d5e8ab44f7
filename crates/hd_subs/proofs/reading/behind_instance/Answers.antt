use Rattle.std.proofs.Common.{◌≡◌, ◌+◌, ◌*◌, refl, arith}
use Rattle.std.proofs.lemmas.List.{take_rest}
use Rattle.hd_terms.specs.Records.{id_len}
use Rattle.hd_subs.specs.Layout.{instance_len}
use Rattle.hd_subs.proofs.ParsedSubs.{values_in, short_instance}
use Rattle.hd_subs.proofs.reading.behind_instance.Goals as goal

pub returns-then-fields-id_len : goal.returns-then-fields-id_len
returns-then-fields-id_len c = short_instance c.args.id_size c.args.fields.now (omega arith)

pub returns-then-fields-len : goal.returns-then-fields-len
returns-then-fields-len c =
    let count : c.read_count.result ≡ values_in (id_len c.args.id_size) c.args.fields.now = rw (← c.bytes-id_len.ensures) c.read_count.ensures in
    short_instance c.args.id_size c.args.fields.now (rw (← count, ← c.bytes-id_len.ensures) c.if-fields-len.true)

pub returns : goal.returns
returns c =
    let count : c.read_count.result ≡ values_in (id_len c.args.id_size) c.args.fields.now = rw (← c.bytes-id_len.ensures) c.read_count.ensures in
    let len : 2 * c.bytes-id_len.result + 8 + c.read_count.result ≡ instance_len c.args.id_size c.args.fields.now = rw (count, c.bytes-id_len.ensures) refl in
    record {
      within = rw (← len) c.if-fields-len.false;
      after_is =
          rw (← len) (take_rest c.args.fields.now (2 * c.bytes-id_len.result + 8 + c.read_count.result));
    }
