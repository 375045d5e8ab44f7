use Rattle.std.proofs.Common.{◌∙◌, Ok, ap, refl}
use Rattle.hd_lines.specs.declared.commands.Command.TheVariants as commands
use Rattle.hd_lines.specs.Replies.{refused}
use Rattle.hd_analyst.proofs.AnswerLemmas.{answered_as, not_quit, quit_answered, unrefreshed}
use Rattle.hd_analyst.proofs.answering.answer_command.Goals as goal

pub returns-in-Quit : goal.returns-in-Quit
returns-in-Quit g c =
    answered_as c.args.text.now c.args.analyst.now c.args.analyst.now (Ok c.args.command) (Ok commands.Quit) c.put_head.new.out c.put_head.new.out
    (ap Ok c.in-Quit.is) refl
    (quit_answered c.args.text.now c.args.analyst.now c.put_head.new.out c.requires c.put_head.ensures.bytes)

pub returns-in-Err : goal.returns-in-Err
returns-in-Err g c =
    unrefreshed c.args.text.now c.args.analyst.now c.refresh.new.self c.args.command c.in-Err.refusal c.put_refused.new.out
    (not_quit c.args.command c.in_default.not-Quit) c.in-Err.ensures
    (c.put_refused.ensures ∙ ap refused c.refusal_text.ensures.name)
