use Rattle.hd_routes.proofs.HeadLemmas.{front_is_all}
use Rattle.hd_routes.proofs.head.front_of.Goals as goal

pub returns-then-bytes-lt-MOST_BYTES : goal.returns-then-bytes-lt-MOST_BYTES
returns-then-bytes-lt-MOST_BYTES c = front_is_all c.args.bytes.now c.if-bytes-lt-MOST_BYTES.true
