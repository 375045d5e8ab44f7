use Rattle.std.proofs.Common.{refl}
use Rattle.hd_log.proofs.ContinuesLemmas.{by_behind}
use Rattle.hd_log.proofs.events.continues.Goals as goal

pub returns : goal.returns
returns c = by_behind c.args.who c.args.events.now c.args.seen.now c.are_others.result (c.if-not-begins_with.ensures.0 refl) c.are_others.ensures
