use Rattle.std.proofs.Common.{inr}
use Rattle.std.proofs.lemmas.List.{take_rest}
use Rattle.hd_records.proofs.Steps.{begin, step, is_stuck, rest-le}
use Rattle.hd_records.proofs.records.read_records.Goals as goal

pub loop-rest-init : goal.loop-rest-init
loop-rest-init c =
    rw (take_rest c.args.bytes.now 31, c.new-texts.ensures.items, c.new-loads.ensures.items, c.new-spans.ensures.items)
    (begin c.in_ok-id_size.id_size c.args.bytes.now c.in_ok-id_size.ensures.ok.long)

pub overflow_sub-at : goal.overflow_sub-at
overflow_sub-at c = rest-le _ _ _ _ _ _ c.loop-rest.invariant

pub returns-in-Err-clause-err : goal.returns-in-Err-clause-err
returns-in-Err-clause-err c =
    inr (is_stuck _ _ _ _ _ _ c.loop-rest.invariant c.in-Err.cause c.in_ok-id_size.ensures.ok c.in-Err.ensures.err)

pub loop-rest-preserved : goal.loop-rest-preserved
loop-rest-preserved c =
    rw (c.in_ok-note_text.ensures, c.in_ok-note_load.ensures, c.in_ok-note_segment.ensures)
    (step _ _ _ _ _ _ c.loop-rest.invariant c.in-Ok.parsed.tag c.in-Ok.parsed.body.now c.in-Ok.parsed.after.now c.in-Ok.ensures.ok)
