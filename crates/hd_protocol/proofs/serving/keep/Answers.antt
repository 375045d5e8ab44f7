use Rattle.std.proofs.Common.{◌∙◌, ◌<◌, ◌≤◌, length, arith}
use Rattle.hd_protocol.proofs.Lines.{kept_of-room, kept_of-full}
use Rattle.hd_protocol.proofs.serving.keep.Goals as goal

pub returns-then-as_slice-lt-KEPT_LINE : goal.returns-then-as_slice-lt-KEPT_LINE
returns-then-as_slice-lt-KEPT_LINE c =
    let lt : length c.args.line.now < 4097 = grind arith in
    c.put.ensures.bytes ∙ kept_of-room c.args.line.now c.args.byte lt

pub returns-else-as_slice-lt-KEPT_LINE : goal.returns-else-as_slice-lt-KEPT_LINE
returns-else-as_slice-lt-KEPT_LINE c =
    let ge : 4097 ≤ length c.args.line.now = grind arith in
    kept_of-full c.args.line.now c.args.byte ge c.as_slice.ensures.most
