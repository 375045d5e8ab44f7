use Rattle.std.proofs.Common.{refl}
use Rattle.hd_routes.proofs.HeadLemmas.{whole_head, whole_fits, unfinished, too_long, no_head}
use Rattle.hd_routes.proofs.head.read_head.Goals as goal

pub returns-in-Ok-Complete-clause-reading : goal.returns-in-Ok-Complete-clause-reading
returns-in-Ok-Complete-clause-reading c =
    whole_head c.args.port c.args.bytes.now c.front_of-front.result.now c.parse_request.new.headers c.in-Ok-Complete.request c.route.result
    c.front_of-front.ensures
    (rw c.in-Ok-Complete.field-0-is at c.in-Ok-Complete.ensures.complete) c.route.ensures

pub returns-else-bytes-lt-MOST_BYTES-clause-reading : goal.returns-else-bytes-lt-MOST_BYTES-clause-reading
returns-else-bytes-lt-MOST_BYTES-clause-reading c =
    too_long c.args.bytes.now c.front_of-front.result.now c.front_of-front.ensures c.if-bytes-lt-MOST_BYTES.false
    (rw c.in-Ok-Partial.field-0-is at c.in-Ok-Partial.ensures.partial)

pub returns-then-bytes-lt-MOST_BYTES-clause-reading : goal.returns-then-bytes-lt-MOST_BYTES-clause-reading
returns-then-bytes-lt-MOST_BYTES-clause-reading c =
    unfinished c.args.bytes.now c.front_of-front.result.now c.front_of-front.ensures c.if-bytes-lt-MOST_BYTES.true
    (rw c.in-Ok-Partial.field-0-is at c.in-Ok-Partial.ensures.partial) (rw c.in-Ok-Partial.field-0-is at c.in-Ok-Partial.ensures.unfinished)

pub returns-in-Err-clause-reading : goal.returns-in-Err-clause-reading
returns-in-Err-clause-reading c =
    rw c.fault_refusal.ensures
    (no_head c.args.bytes.now c.front_of-front.result.now _ _ c.in-Err.error refl c.front_of-front.ensures refl c.in-Err.ensures.invalid
    c.in-Err.ensures.too_many)

pub returns-in-Ok-Complete-clause-within : goal.returns-in-Ok-Complete-clause-within
returns-in-Ok-Complete-clause-within c =
    whole_fits c.args.port c.args.bytes.now c.route.result c.in-Ok-Complete.request.len
    (whole_head c.args.port c.args.bytes.now c.front_of-front.result.now c.parse_request.new.headers c.in-Ok-Complete.request c.route.result
    c.front_of-front.ensures
    (rw c.in-Ok-Complete.field-0-is at c.in-Ok-Complete.ensures.complete) c.route.ensures)
