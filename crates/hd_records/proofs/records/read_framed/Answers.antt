use Rattle.std.proofs.Common.{◌≡◌, ◌+◌, ◌-◌, sym, arith}
use Rattle.std.proofs.lemmas.List.{take_rest}
use Rattle.hd_records.proofs.ParsedRecords.{begins, cut_off}
use Rattle.hd_records.proofs.records.read_framed.Goals as goal

pub returns-then-rest-lt-HEAD_LEN : goal.returns-then-rest-lt-HEAD_LEN
returns-then-rest-lt-HEAD_LEN c = cut_off c.args.rest.now c.requires (omega arith)

pub returns-then-rest-len : goal.returns-then-rest-len
returns-then-rest-len c = cut_off c.args.rest.now c.requires (omega arith)

pub returns : goal.returns
returns c =
    let long : 9 + c.number_at.result - 9 ≡ c.number_at.result = omega arith in
    rw (take_rest c.args.rest.now (9 + c.number_at.result), long)
    (begins c.args.rest.now c.number_at.result (sym c.number_at.ensures) c.if-rest-len.false)
