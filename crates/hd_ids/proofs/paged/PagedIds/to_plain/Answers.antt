use Rattle.std.proofs.Common.{◌∙◌, ap, arith}
use Rattle.hd_ids.specs.Noted.{noted}
use Rattle.hd_ids.proofs.PlainLemmas.{one-more, all-kept}
use Rattle.hd_ids.proofs.paged.PagedIds.to_plain.Goals as goal

pub loop-number-preserved : goal.loop-number-preserved
loop-number-preserved c =
    c.in_ok-note.ensures.noted
    ∙ ap (noted c.loop-number.plain) c.get.ensures
    ∙ one-more c.args.self.now c.loop-number.plain c.loop-number.number (omega arith) c.loop-number.invariant

pub returns : goal.returns
returns c = all-kept c.args.self.now c.loop-number.plain c.loop-number.number (omega arith) c.len-number-end.ensures.distinct c.loop-number.invariant
