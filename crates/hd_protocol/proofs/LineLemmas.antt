-- A line is run and its reply written.
use Rattle.std.proofs.Common.{◌≡◌, ◌∙◌, ℕ, Bool, true, false, List, take, Option, Result, Ok, Err, sym, ap, subst}
use Rattle.std.specs.Prelude.{if◌then◌else◌}
use Rattle.std.specs.Io.KnownBytes.{Appends}
use Rattle.hd_lines.specs.declared.commands.Command.{Command}
use Rattle.hd_lines.specs.declared.commands.LineFault.{LineFault}
use Rattle.hd_lines.specs.Lines.{command_of, is_quit, is_quit_command, last_word}
use Rattle.hd_analyst.specs.Answering.{IsAnswered}
use Rattle.hd_analyst.specs.Work.{Work}
use Rattle.hd_protocol.specs.declared.serving.ServeFault.{ServeFault}
use Rattle.hd_protocol.specs.declared.serving.ServeFault.TheVariants as serve_faults
use Rattle.hd_protocol.specs.declared.serving.Flow.{Flow}
use Rattle.hd_protocol.specs.declared.serving.Flow.TheVariants as flows
use Rattle.hd_protocol.specs.Steps.{EndsLine, RunsLine}

-- a line is run once its reply is written, or a front of it
module _ (old new : Work) (line reply text : List ℕ) (reading : Result Command LineFault) (before after : Option (List ℕ)) (last : text ≡ last_word line)
    (read : reading ≡ command_of line) (h : IsAnswered old new text reading reply) where
  ends : (result : Result Flow ServeFault) → EndsLine line reply before after result → RunsLine old new line before after result
  ends result e = record {
    reply = reply;
    answered = subst (λ (word : List ℕ). IsAnswered old new word (command_of line) reply) last
        (subst (λ (c : Result Command LineFault). IsAnswered old new text c reply) read h);
    ends = e;
  }

  pub line_fault : (k : ℕ) (e : ServeFault) (result : Result Flow ServeFault) → result ≡ Err e → e ≡ serve_faults.Write → Appends before after (take k reply)
      → RunsLine old new line before after result
  line_fault k e result is write wrote = ends result (subst (EndsLine line reply before after) (sym (is ∙ ap (λ (f : ServeFault). Err f) write)) (k, wrote))

  flow_ends : (b : Bool) → is_quit line ≡ b → Appends before after reply → EndsLine line reply before after (Ok (if b then flows.Quits else flows.GoesOn))
  flow_ends true quits wrote = (wrote, quits)
  flow_ends false quits wrote = (wrote, quits)

  pub line_done : (flow : Flow) → (if is_quit_command reading then flows.Quits else flows.GoesOn) ≡ flow → Appends before after reply
      → RunsLine old new line before after (Ok flow)
  line_done flow is wrote =
      ends (Ok flow) (subst (λ (f : Flow). EndsLine line reply before after (Ok f)) is
      (flow_ends (is_quit_command reading) (ap is_quit_command (sym read)) wrote))
