use Rattle.std.proofs.Common.{Ok, refl, sym, subst}
use Rattle.hd_lines.specs.declared.commands.Command.TheVariants as commands
use Rattle.hd_analyst.specs.Answering.{IsRun}
use Rattle.hd_analyst.proofs.AnswerLemmas.{edit_ran, mark_ran, names_ran, never_quit, private_ran, back_ran, run_as}
use Rattle.hd_analyst.proofs.answering.run_command.Goals as goal
use Rattle.hd_analyst.proofs.answering.run_command.Goals.{in-Names, in-Quit, in-Edit, in-Undo, in-Mark, in-Private, in-Back}

pub returns : goal.returns
returns g c = elim c.match-command.branch [
  | in-Names w ↦ run_as c.args.text.now c.args.analyst.now c.match-command.analyst w.show_names.new.self c.args.command _ c.match-command.out w.put_head.new.out
      w.in-Names.is w.analyst-is w.out-is
      (names_ran c.args.text.now c.args.analyst.now w.show_names.new.self w.in-Names.on w.put_head.new.out w.show_names.ensures w.put_head.ensures.bytes)
  | in-Quit w ↦ absurd (never_quit c.args.command c.requires.command w.in-Quit.is)
  | in-Edit w ↦ run_as c.args.text.now c.args.analyst.now c.match-command.analyst w.edit.new.self c.args.command _ c.match-command.out w.put_edit.new.out
      w.in-Edit.is w.analyst-is w.out-is
      (subst (IsRun c.args.analyst.now w.edit.new.self c.args.text.now (Ok (commands.Edit w.in-Edit.edit))) (sym w.put_edit.ensures)
      (edit_ran c.args.text.now c.args.analyst.now w.edit.new.self (commands.Edit w.in-Edit.edit) _ refl refl w.edit.result w.edit.ensures))
  | in-Undo w ↦ run_as c.args.text.now c.args.analyst.now c.match-command.analyst w.undo.new.self c.args.command _ c.match-command.out
      w.put_edit-in-Undo.new.out w.in-Undo.is w.analyst-is w.out-is
      (subst (IsRun c.args.analyst.now w.undo.new.self c.args.text.now (Ok (commands.Undo w.in-Undo.number))) (sym w.put_edit-in-Undo.ensures)
      (edit_ran c.args.text.now c.args.analyst.now w.undo.new.self (commands.Undo w.in-Undo.number) _ refl refl w.undo.result w.undo.ensures))
  | in-Mark w ↦ run_as c.args.text.now c.args.analyst.now c.match-command.analyst w.mark.new.self c.args.command _ c.match-command.out w.put_numbered.new.out
      w.in-Mark.is w.analyst-is w.out-is
      (subst (IsRun c.args.analyst.now w.mark.new.self c.args.text.now (Ok commands.Mark)) (sym w.put_numbered.ensures)
      (mark_ran c.args.text.now c.args.analyst.now w.mark.new.self w.mark.result w.mark.ensures))
  | in-Private w ↦ run_as c.args.text.now c.args.analyst.now c.match-command.analyst w.go_private.new.self c.args.command _ c.match-command.out
      w.put_numbered-in-Private.new.out w.in-Private.is w.analyst-is w.out-is
      (subst (IsRun c.args.analyst.now w.go_private.new.self c.args.text.now (Ok commands.Private)) (sym w.put_numbered-in-Private.ensures)
      (private_ran c.args.text.now c.args.analyst.now w.go_private.new.self w.go_private.result w.go_private.ensures))
  | in-Back w ↦ run_as c.args.text.now c.args.analyst.now c.match-command.analyst w.go_back.new.self c.args.command _ c.match-command.out
      w.put_numbered-in-Back.new.out w.in-Back.is w.analyst-is w.out-is
      (subst (IsRun c.args.analyst.now w.go_back.new.self c.args.text.now (Ok commands.Back)) (sym w.put_numbered-in-Back.ensures)
      (back_ran c.args.text.now c.args.analyst.now w.go_back.new.self w.go_back.result w.go_back.ensures))
]
