-- Lemmas on what a line is answered that spells something.
use Rattle.std.proofs.Common.{◌≡◌, ◌∙◌, ℕ, inl, inr, true, false, List, ◌∷◌, [], codes, Option, Some, Result, Ok, Err, refl, sym, ap, subst, append-nil}
use Rattle.std.specs.Prelude.{Bool, not}
use Rattle.hd_terms.specs.declared.Event.{Event}
use Rattle.hd_terms.specs.declared.What.{What}
use Rattle.hd_lines.specs.declared.commands.Command.{Command}
use Rattle.hd_lines.specs.declared.commands.Command.TheVariants as commands
use Rattle.hd_lines.specs.declared.commands.LineFault.{LineFault}
use Rattle.hd_terms.specs.declared.errors.LogFault.TheVariants as faults
use Rattle.hd_terms.specs.declared.errors.Refusal.{Refusal}
use Rattle.hd_terms.specs.declared.errors.Refusal.TheVariants as refusals
use Rattle.hd_lines.specs.Asking.{asked}
use Rattle.hd_lines.specs.Lines.{command_of, is_quit_command, last_word}
use Rattle.hd_lines.specs.Memory.{with_names}
use Rattle.hd_terms.specs.Log.{IsLawful}
use Rattle.hd_lines.specs.Replies.{RepliesTo, RefusesPrivate, RefusesBack, IsUnserved, answered, event_line, line_fault_name, refused, refusal_name, refreshes}
use Rattle.hd_lines.specs.Sessions.{Analyst, IsLater, IsRefreshed, IsTurn}
use Rattle.hd_terms.specs.Appending.{event_by, with_event}
use Rattle.hd_lines.specs.Sessions as sessions
use Rattle.hd_state.specs.declared.state.Done.{Done}
use Rattle.hd_analyst.specs.declared.edit.NotDone.{NotDone}
use Rattle.hd_analyst.specs.declared.edit.NotDone.TheVariants as not_done
use Rattle.hd_analyst.specs.Answering.{IsRun, IsAnswered, turn_of}
use Rattle.hd_analyst.specs.Editing.{Adds, Does, AddsBehind, AddsNot, EditEnds, edit_reply}
use Rattle.hd_analyst.specs.Marking.{Remembers, Refreshes, RefreshEnds, MarkEnds, PrivateEnds, BackEnds, numbered_reply}
use Rattle.hd_analyst.specs.Replying.{answered_head}
use Rattle.hd_analyst.specs.Work.{Work}

-- a lawful log is later than itself
pub same_log : (who : ℕ) (log : List Event) → IsLawful log → IsLater who log log
same_log who log lawful = record { more = []; begins = sym (append-nil log); same_own = refl; lawful = lawful }

-- the desk isn't refreshed
pub stays_put : (work : Work) → IsLawful work.memory.log → Refreshes work work
stays_put work lawful = record { same_analyst = refl; refreshed = record { later = same_log work.analyst.who work.memory.log lawful; same = refl } }

-- memory ran out
ran_out : (r : Refusal) (reply : List ℕ) → reply ≡ refused (refusal_name r) → r ≡ refusals.Log faults.OutOfMemory → IsUnserved reply
ran_out r reply says is = inl (says ∙ ap (λ (q : Refusal). refused (refusal_name q)) is)

-- all commands but `quit` refresh the desk
pub refreshed_first : (c : Command) → is_quit_command (Ok c) ≡ false → refreshes (Ok c) ≡ true
refreshed_first c h = ap not h

-- all commands but one are not `quit`
pub not_quit : (c : Command) → (c ≡ commands.Quit → ⊥) → is_quit_command (Ok c) ≡ false
not_quit (commands.Ask most query) other = refl
not_quit (commands.Names on) other = refl
not_quit (commands.Edit edit) other = refl
not_quit (commands.Undo number) other = refl
not_quit commands.Mark other = refl
not_quit commands.Private other = refl
not_quit commands.Back other = refl
not_quit commands.Quit other = absurd (other refl)

-- a command that isn't `quit` is none
no_truth : true ≡ false → ⊥
no_truth h = absurd cc

pub never_quit : (c : Command) → is_quit_command (Ok c) ≡ false → c ≡ commands.Quit → ⊥
never_quit c h is = no_truth (subst (λ (x : Command). is_quit_command (Ok x) ≡ false) is h)

-- of a line with this last word
module _ (text : List ℕ) where
  -- a line that is run at once
  pub answered_at_once : (old new : Work) (reading : Result Command LineFault) (reply : List ℕ) → IsLawful old.memory.log → IsRun old new text reading reply
      → IsAnswered old new text reading reply
  answered_at_once old new reading reply lawful run = record { between = old; refreshes = stays_put old lawful; run = run }

  -- a command for which the desk was refreshed, or is
  pub answered_after : (old between new : Work) (reading : Result Command LineFault) (reply : List ℕ) → Refreshes old between
      → IsRun between new text reading reply → IsAnswered old new text reading reply
  answered_after old between new reading reply refresh run = record { between = between; refreshes = refresh; run = run }

  -- a line that changes nothing
  pub changes_nothing : (old new : Work) (reading : Result Command LineFault) (reply : List ℕ) → Remembers old new old.memory
      → RepliesTo old.analyst.dump old.memory text reading reply → IsRun old new text reading reply
  changes_nothing old new reading reply same h = record {
    same_analyst = same.same_analyst;
    found = old.memory.log;
    later = same_log old.analyst.who old.memory.log;
    is_turn = λ line spells last. sessions.answered (subst (λ (word : List ℕ). RepliesTo old.analyst.dump old.memory word (command_of line) reply) (sym last)
        (subst (λ (r : Result Command LineFault). RepliesTo old.analyst.dump old.memory text r reply) (sym spells) h)) refl same.memory_is;
  }

  -- a command that isn't run
  pub isn't_run : (old new : Work) (reading : Result Command LineFault) (reply : List ℕ) → Remembers old new old.memory → refreshes reading ≡ true
      → IsUnserved reply → IsRun old new text reading reply
  isn't_run old new reading reply same needs unserved = record {
    same_analyst = same.same_analyst;
    found = old.memory.log;
    later = same_log old.analyst.who old.memory.log;
    is_turn = λ line spells last. sessions.unserved (ap refreshes spells ∙ needs) unserved refl same.memory_is;
  }

  -- an edit or an undo
  module _ (old new : Work) (c : Command) (want : Result What Refusal) (asks : asked old.analyst.dump old.memory.log old.analyst.who c ≡ Some want)
      (needs : refreshes (Ok c) ≡ true) where
    -- its event is added
    adds : (reply : List ℕ) (a : Adds old new want)
        → ((line : List ℕ) → command_of line ≡ Ok c → last_word line ≡ text → IsTurn old.analyst (turn_of line old.memory a.found new.memory reply))
        → IsRun old new text (Ok c) reply
    adds reply a turn = record { same_analyst = a.same_analyst; found = a.found; later = λ lawful. a.later; is_turn = turn }

    asks_for : (a : Adds old new want) → asked old.analyst.dump old.memory.log old.analyst.who c ≡ Some (Ok a.what)
    asks_for a = asks ∙ ap (λ (w : Result What Refusal). Some w) a.asked_for

    does : (done : Done) → Does old new want done → IsRun old new text (Ok c) (edit_reply (Ok done))
    does done d =
        adds (edit_reply (Ok done)) d.adds (λ line spells last. sessions.accepted c d.adds.what spells (asks_for d.adds) d.adds.taken
        (record {
          fell = done.fell;
          back = done.back;
          fell_is = d.counts.fell;
          back_is = d.counts.back;
          reply_is = ap (λ (n : ℕ). answered (event_line n done.fell done.back ∷ [])) d.counts.event;
        })
        d.adds.added)

    behind : (number : ℕ) → AddsBehind old new want number → IsRun old new text (Ok c) (edit_reply (Err (not_done.Accepted number)))
    behind number d =
        adds (edit_reply (Err (not_done.Accepted number))) d.adds (λ line spells last. sessions.unfinished c d.adds.what spells (asks_for d.adds) d.adds.taken
        (ap (λ (n : ℕ). edit_reply (Err (not_done.Accepted n))) d.number_is) d.adds.added)

    -- it isn't
    module _ (r : Refusal) (d : AddsNot old new want r) where
      stays : (reply : List ℕ)
          → ((line : List ℕ) → command_of line ≡ Ok c → last_word line ≡ text → IsTurn old.analyst (turn_of line old.memory d.found new.memory reply))
          → IsRun old new text (Ok c) reply
      stays reply turn = record { same_analyst = d.same_analyst; found = d.found; later = λ lawful. d.later; is_turn = turn }

      refuses : IsRun old new text (Ok c) (refused (refusal_name r))
      refuses = elim d.why [
        | inl (same, inl unserved) ↦ stays (refused (refusal_name r)) (λ line spells last. sessions.unserved (ap refreshes spells ∙ needs) unserved same d.left)
        | inl (same, inr before) ↦
            stays (refused (refusal_name r))
            (λ line spells last. sessions.declined c r spells (asks ∙ ap (λ (w : Result What Refusal). Some w) before) refl same d.left)
        | inr log ↦ stays (refused (refusal_name r))
            (λ line spells last. sessions.rejected c log.what r spells (asks ∙ ap (λ (w : Result What Refusal). Some w) log.asked_for) log.refuses refl d.left)
      ]

    pub edit_ran : (ended : Result Done NotDone) → EditEnds old new want ended → IsRun old new text (Ok c) (edit_reply ended)
    edit_ran (Ok done) h = does done h
    edit_ran (Err (not_done.Refused r)) h = refuses r h
    edit_ran (Err (not_done.Accepted number)) h = behind number h

  -- a turn that adds no event
  module _ (old new : Work) (c : Command) (reply : List ℕ) (same_analyst : new.analyst ≡ old.analyst) where
    between : ((line : List ℕ) → command_of line ≡ Ok c → last_word line ≡ text → IsTurn old.analyst (turn_of line old.memory old.memory.log new.memory reply))
        → IsRun old new text (Ok c) reply
    between turn = record { same_analyst = same_analyst; found = old.memory.log; later = same_log old.analyst.who old.memory.log; is_turn = turn }

  -- a mark is added, or not
  pub mark_ran : (old new : Work) (ended : Result ℕ Refusal) → MarkEnds old new ended
      → IsRun old new text (Ok commands.Mark) (numbered_reply (codes "mark ") ended)
  mark_ran old new (Ok m) h =
      between old new commands.Mark (numbered_reply (codes "mark ") (Ok m)) h.marked.same_analyst
      (λ line spells last. sessions.marked spells h.room (ap (λ (n : ℕ). numbered_reply (codes "mark ") (Ok n)) h.number) refl h.marked.memory_is)
  mark_ran old new (Err r) (same, inl memory) = isn't_run old new (Ok commands.Mark) (refused (refusal_name r)) same refl
      (ran_out r (refused (refusal_name r)) refl memory)
  mark_ran old new (Err r) (same, inr full) =
      changes_nothing old new (Ok commands.Mark) (refused (refusal_name r)) same
      (record { full = full.1; reply_is = ap (λ (q : Refusal). refused (refusal_name q)) full.0 })

  -- replies show names from here on, or no longer
  pub names_ran : (old new : Work) (on : Bool) (reply : List ℕ) → Remembers old new (with_names old.memory on) → reply ≡ answered_head 0
      → IsRun old new text (Ok (commands.Names on)) reply
  names_ran old new on reply h is =
      between old new (commands.Names on) reply h.same_analyst
      (λ line spells last. sessions.renamed on spells (is ∙ sym (append-nil (answered_head 0))) refl h.memory_is)

  -- a private part begins, or not
  pub private_ran : (old new : Work) (ended : Result ℕ Refusal) → PrivateEnds old new ended
      → IsRun old new text (Ok commands.Private) (numbered_reply (codes "private ") ended)
  private_ran old new (Ok n) h =
      between old new commands.Private (numbered_reply (codes "private ") (Ok n)) h.begun.same_analyst
      (λ line spells last. sessions.gone_private spells h.none_open (ap (λ (m : ℕ). numbered_reply (codes "private ") (Ok m)) h.number) refl h.begun.memory_is)
  private_ran old new (Err r) (same, inl memory) = isn't_run old new (Ok commands.Private) (refused (refusal_name r)) same refl
      (ran_out r (refused (refusal_name r)) refl memory)
  private_ran old new (Err r) (same, inr (is, home, opened)) =
      changes_nothing old new (Ok commands.Private) (refused (refusal_name r)) same
      (subst (λ (h : Option (List Event)). RefusesPrivate h (refused (refusal_name r))) (sym opened) (ap (λ (q : Refusal). refused (refusal_name q)) is))

  -- a private part ends, or none was open
  pub back_ran : (old new : Work) (ended : Result ℕ Refusal) → BackEnds old new ended
      → IsRun old new text (Ok commands.Back) (numbered_reply (codes "back ") ended)
  back_ran old new (Ok k) h =
      between old new commands.Back (numbered_reply (codes "back ") (Ok k)) h.ended.same_analyst
      (λ line spells last. sessions.gone_back h.home spells h.was_open (ap (λ (m : ℕ). numbered_reply (codes "back ") (Ok m)) h.number) refl h.ended.memory_is)
  back_ran old new (Err r) (same, is, none) =
      changes_nothing old new (Ok commands.Back) (refused (refusal_name r)) same
      (subst (λ (h : Option (List Event)). RefusesBack h (refused (refusal_name r))) (sym none) (ap (λ (q : Refusal). refused (refusal_name q)) is))

  -- what is known of one command, work and reply holds of those that are the same
  pub run_as : (old new new' : Work) (command command' : Command) (reply reply' : List ℕ) → command ≡ command' → new ≡ new' → reply ≡ reply'
      → IsRun old new' text (Ok command') reply' → IsRun old new text (Ok command) reply
  run_as old new new' command command' reply reply' same_command same_work same_reply h = rw (same_command, same_work, same_reply) h

  -- a command for which the desk couldn't be refreshed
  pub unrefreshed : (old new : Work) (c : Command) (r : Refusal) (reply : List ℕ) → is_quit_command (Ok c) ≡ false → RefreshEnds old new (Err r)
      → reply ≡ refused (refusal_name r) → IsAnswered old new text (Ok c) reply
  unrefreshed old new c r reply other h is =
      answered_after old new new (Ok c) reply h.0 (isn't_run new new (Ok c) reply (record { same_analyst = refl; memory_is = refl }) (refreshed_first c other)
      (subst IsUnserved (sym is) h.1))

  -- a line that is no command, and `quit`
  pub line_fault_answered : (work : Work) (f : LineFault) (reply : List ℕ) → IsLawful work.memory.log → reply ≡ refused (line_fault_name f)
      → IsAnswered work work text (Err f) reply
  line_fault_answered work f reply lawful is =
      answered_at_once work work (Err f) reply lawful (changes_nothing work work (Err f) reply (record { same_analyst = refl; memory_is = refl }) is)

  pub quit_answered : (work : Work) (reply : List ℕ) → IsLawful work.memory.log → reply ≡ answered_head 0 → IsAnswered work work text (Ok commands.Quit) reply
  quit_answered work reply lawful is =
      answered_at_once work work (Ok commands.Quit) reply lawful
      (changes_nothing work work (Ok commands.Quit) reply (record { same_analyst = refl; memory_is = refl }) (is ∙ sym (append-nil (answered_head 0))))

  -- what is known of one reading and reply holds of those that are the same
  pub answered_as : (old new : Work) (reading reading' : Result Command LineFault) (reply reply' : List ℕ) → reading ≡ reading' → reply ≡ reply'
      → IsAnswered old new text reading' reply' → IsAnswered old new text reading reply
  answered_as old new reading reading' reply reply' same_reading same_reply h = rw (same_reading, same_reply) h
