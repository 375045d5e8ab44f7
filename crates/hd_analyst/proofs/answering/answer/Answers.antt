use Rattle.std.proofs.Common.{◌∙◌, Err, ap, refl}
use Rattle.hd_lines.specs.Replies.{refused}
use Rattle.hd_analyst.proofs.AnswerLemmas.{answered_as, line_fault_answered}
use Rattle.hd_analyst.proofs.answering.answer.Goals as goal

pub returns-in-Err : goal.returns-in-Err
returns-in-Err g c =
    answered_as c.args.text.now c.args.analyst.now c.args.analyst.now c.args.reading
    (Err c.in-Err.fault) c.put_refused.new.out c.put_refused.new.out c.in-Err.is refl
    (line_fault_answered c.args.text.now c.args.analyst.now c.in-Err.fault c.put_refused.new.out c.is_lawful.ensures
    (c.put_refused.ensures ∙ ap refused c.fault_name.ensures.name))
