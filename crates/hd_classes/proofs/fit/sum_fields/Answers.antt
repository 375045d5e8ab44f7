use Rattle.std.proofs.Common.{◌+◌, arith}
use Rattle.hd_classes.specs.declared.known.LayoutField.{LayoutField}
use Rattle.hd_classes.proofs.FieldLemmas.{bytes-more, bytes-within}
use Rattle.hd_classes.proofs.fit.sum_fields.Goals as goal

-- a field, where it doesn't matter which
abbrev any_field : LayoutField
any_field = record { owner = 0; name = 0; code = 0 }

pub returns-in_err-left : goal.returns-in_err-left
returns-in_err-left c =
    let more = bytes-more c.args.id_size c.args.fields.now c.loop-i.i any_field c.loop-i-test.true in
    let within = bytes-within c.args.id_size c.args.fields.now (c.loop-i.i + 1) in
    rw c.from_residual.ensures (omega (arith, more, within, c.loop-i.invariant.sum, c.value_len.ensures.len, c.from.ensures, c.checked_sub.ensures))
