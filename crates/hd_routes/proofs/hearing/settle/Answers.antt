use Rattle.std.proofs.Common.{◌∙◌}
use Rattle.std.proofs.lemmas.List.{take_rest}
use Rattle.hd_routes.proofs.HearingLemmas.{heard_none, heard_whole}
use Rattle.hd_routes.proofs.hearing.settle.Goals as goal

pub returns-in-NoHead : goal.returns-in-NoHead
returns-in-NoHead c =
    heard_none c.args.port c.args.bytes.now c.args.is_end c.refused-in-NoHead.result
    (c.in-NoHead.refusal, c.refused-in-NoHead.ensures.answer, c.in-NoHead.ensures.reading)

pub returns-in_ok-left-in-Whole : goal.returns-in_ok-left-in-Whole
returns-in_ok-left-in-Whole c =
    heard_whole c.args.port c.args.bytes.now c.args.is_end _ (
      c.in-Whole.len,
      c.in-Whole.ensures.reading,
      c.in_ok-left-in-Whole.ensures.items
          ∙ take_rest c.args.bytes.now c.in-Whole.len,
    )
