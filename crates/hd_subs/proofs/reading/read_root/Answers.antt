use Rattle.std.proofs.Common.{◌+◌, arith}
use Rattle.std.proofs.lemmas.List.{take_rest}
use Rattle.hd_subs.proofs.ParsedSubs.{short_root, begins_root}
use Rattle.hd_subs.proofs.reading.read_root.Goals as goal

pub returns-then-fields-len : goal.returns-then-fields-len
returns-then-fields-len c = short_root c.args.id_size c.args.kind c.args.fields.now (omega arith)

pub returns : goal.returns
returns c =
    rw (take_rest c.args.fields.now (c.bytes.result + c.bytes_behind_id.result), c.bytes.ensures, c.bytes_behind_id.ensures)
    (begins_root c.args.id_size c.args.offset c.args.kind c.args.fields.now c.read.result (omega arith) c.read.ensures)
