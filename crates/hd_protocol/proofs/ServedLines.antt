-- Lemmas on how serving stands from one step to the next.
use Rattle.std.proofs.Common.{◌≡◌, ◌∙◌, ℕ, ◌+◌, ◌<◌, ◌≤◌, inl, inr, true, false, List, [], ◌∷◌, ◌++◌, Option, None, Some, Result, Ok, Err, length, get_or, take}
use Rattle.std.proofs.Common.{drop, refl, sym, ap, subst, arith, append_assoc, append-nil, take-append-drop, take_all, ne_eqb, ◌⊎◌}
use Rattle.std.specs.Prelude.{◌==◌, OnSome}
use Rattle.std.specs.Io.KnownBytes.{Keeps, Appends, Consumes, IsAtEnd}
use Rattle.std.proofs.KnownBytes.{Keeps-refl}
use Rattle.std.proofs.lemmas.List.{take_more}
use Rattle.hd_lines.specs.declared.commands.Command.{Command}
use Rattle.hd_lines.specs.declared.commands.LineFault.{LineFault}
use Rattle.hd_lines.specs.Lines.{whole_lines, lines_of, run_lines, is_quit, is_quit_command, command_of, last_word}
use Rattle.hd_lines.specs.Memory.{Memory}
use Rattle.hd_lines.specs.Sessions.{Analyst, Turn, replies}
use Rattle.hd_analyst.specs.Work.{Work}
use Rattle.hd_protocol.specs.declared.serving.ServeFault.{ServeFault}
use Rattle.hd_protocol.specs.declared.serving.ServeFault.TheVariants as faults
use Rattle.hd_protocol.specs.declared.serving.Flow.{Flow}
use Rattle.hd_protocol.specs.declared.serving.Flow.TheVariants as flows
use Rattle.hd_analyst.specs.Answering.{IsAnswered}
use Rattle.hd_protocol.specs.Serving.{IsLeft, OfBytes, ServedFrom, ServedUntilReadFrom, ServedUntilWriteFrom, ServesFrom}
use Rattle.hd_protocol.specs.Steps.{open_line, kept_of, IsAnsweredSoFar, Midway, midway, IsOpen, Stands, RunsBytes, RunsLine, StandsAtEnd, RunsEnd, RunsInput}
use Rattle.hd_protocol.proofs.Lines.{whole_lines-newline, open_line-newline, whole_lines-other, open_line-other, lines_of-none, lines_of-some, lines_of-newline}
use Rattle.hd_protocol.proofs.Lines.{run_lines-all, run_lines-push, run_lines-quit, command_of-kept, last_word-kept, kept_of-push, kept_of-none, kept_of-some}
use Rattle.hd_protocol.proofs.Turns.{answered_none, answered_push, all_push, last_turn, memory_with, reply_with, session_with}
use Rattle.hd_protocol.proofs.Writing.{appends_nil, appends_both, appends_kept, consumes_nil, consumes_both, consumes_kept}

-- lines that were answered, as the lines that are run of an input
pub served : (a : Analyst) (first : Memory) (input written : List ℕ) (memory : Memory) (lines : List (List ℕ)) → run_lines (lines_of input) ≡ lines
    → IsAnsweredSoFar a first lines written memory
    → ServedFrom a first memory input written
served a first input written memory lines are so_far =
    (so_far.turns, record { session = rw are so_far.session; written_is = so_far.written_is }, so_far.memory_is)

-- all lines were answered, and all replies are whole
fault_between : (a : Analyst) (first : Memory) (seen rest written : List ℕ) (memory : Memory) (lines : List (List ℕ)) → (lines ≡ whole_lines seen)
    ⊎ ((rest ≡ []) × (lines ≡ lines_of seen)) → run_lines lines ≡ lines
    → IsAnsweredSoFar a first lines written memory → ServedUntilWriteFrom a first memory (seen ++ rest) written
fault_between a first seen rest written memory lines read are so_far = (
  so_far.turns,
  record {
    consumed = seen;
    rest = rest;
    split = refl;
    lines = lines;
    read = read;
    session = rw are so_far.session;
    whole = so_far.turns;
    broken = [];
    turns_are = sym (append-nil so_far.turns);
    one_at_most = omega arith;
    part = [];
    more = [];
    broken_is = refl;
    written_is = so_far.written_is ∙ sym (append-nil (replies so_far.turns));
  },
  so_far.memory_is,
)

-- the reply to one more line broke off
fault_at : (a : Analyst) (first : Memory) (seen rest written : List ℕ) (before lines : List (List ℕ)) (old new : Work) (line reply : List ℕ) (k : ℕ)
    → (lines ≡ whole_lines seen) ⊎ ((rest ≡ []) × (lines ≡ lines_of seen))
    → run_lines lines ≡ before ++ line ∷ [] → old.analyst ≡ a → IsAnsweredSoFar a first before written old.memory
    → IsAnswered old new (last_word line) (command_of line) reply
    → ServedUntilWriteFrom a first new.memory (seen ++ rest) (written ++ take k reply)
fault_at a first seen rest written before lines old new line reply k read are is so_far h =
    let t : Turn = last_turn a first before written old new line reply is so_far h in (
      so_far.turns ++ t ∷ [],
      record {
        consumed = seen;
        rest = rest;
        split = refl;
        lines = lines;
        read = read;
        session = rw are (session_with a first before written old new line reply is so_far h);
        whole = so_far.turns;
        broken = t ∷ [];
        turns_are = refl;
        one_at_most = omega arith;
        part = take k reply;
        more = drop k reply;
        broken_is = reply_with a first before written old new line reply is so_far h ∙ sym (take-append-drop k reply);
        written_is = ap (λ l. l ++ take k reply) so_far.written_is;
      },
      memory_with a first before written old new line reply is so_far h,
    )

-- a line that is answered leaves the analyst
pub answered_same : (old new : Work) (text : List ℕ) (reading : Result Command LineFault) (reply : List ℕ) → IsAnswered old new text reading reply
    → new.analyst ≡ old.analyst
answered_same old new text reading reply h = h.run.same_analyst ∙ h.refreshes.same_analyst

-- nothing was read
pub open_none : (work : Work) → IsOpen work.analyst work.memory [] (midway work []) []
open_none work = record { same_analyst = refl; so_far = answered_none work.analyst work.memory; none_quits = tt; kept_is = refl }

module _ (a : Analyst) (first : Memory) (seen : List ℕ) (m : Midway) (written : List ℕ) (o : IsOpen a first seen m written) where
  -- what is kept of the open line spells the same, and has the same last word
  same_command : command_of (open_line seen) ≡ command_of m.kept
  same_command = sym (ap command_of o.kept_is ∙ command_of-kept (open_line seen))

  same_word : last_word (open_line seen) ≡ last_word m.kept
  same_word = sym (ap last_word o.kept_is ∙ last_word-kept (open_line seen))

  quit_of_open : is_quit (open_line seen) ≡ is_quit m.kept
  quit_of_open = ap is_quit_command same_command

  -- what was answered to what is kept is answered to the open line
  open_answered : (new : Work) (reply : List ℕ) → IsAnswered m.work new (last_word m.kept) (command_of m.kept) reply
      → IsAnswered m.work new (last_word (open_line seen)) (command_of (open_line seen)) reply
  open_answered new reply h =
      subst (λ (word : List ℕ). IsAnswered m.work new word (command_of (open_line seen)) reply) (sym same_word)
      (subst (λ (c : Result Command LineFault). IsAnswered m.work new (last_word m.kept) c reply) (sym same_command) h)

  answered_open : (new : Work) (reply : List ℕ) → IsAnswered m.work new (last_word m.kept) (command_of m.kept) reply
      → IsAnsweredSoFar a first (whole_lines seen ++ open_line seen ∷ []) (written ++ reply) new.memory
  answered_open new reply h = answered_push a first (whole_lines seen) written m.work new (open_line seen) reply o.same_analyst o.so_far
      (open_answered new reply h)

  -- a byte that is no newline
  pub after_other : (b : ℕ) → (b ≡ 10 → ⊥) → IsOpen a first (seen ++ b ∷ []) (midway m.work (kept_of (m.kept ++ b ∷ []))) written
  after_other b other =
      let no_newline : (b == 10) ≡ false = ne_eqb b 10 other in
      let whole : whole_lines (seen ++ b ∷ []) ≡ whole_lines seen = whole_lines-other seen b no_newline in
      record {
        same_analyst = o.same_analyst;
        so_far = rw whole o.so_far;
        none_quits = rw whole o.none_quits;
        kept_is = ap (λ l. kept_of (l ++ b ∷ [])) o.kept_is ∙ kept_of-push (open_line seen) b ∙ ap kept_of (sym (open_line-other seen b no_newline));
      }

  -- a newline after a line that isn't `quit`
  after_newline : (new : Work) (reply : List ℕ) → IsAnswered m.work new (last_word m.kept) (command_of m.kept) reply → is_quit m.kept ≡ false
      → IsOpen a first (seen ++ 10 ∷ []) (midway new []) (written ++ reply)
  after_newline new reply h goes_on =
      let whole : whole_lines (seen ++ 10 ∷ []) ≡ whole_lines seen ++ open_line seen ∷ [] = whole_lines-newline seen in
      record {
        same_analyst = answered_same m.work new (last_word m.kept) (command_of m.kept) reply h ∙ o.same_analyst;
        so_far = rw whole (answered_open new reply h);
        none_quits = rw whole (all_push (λ line. is_quit line ≡ false) (whole_lines seen) (open_line seen) o.none_quits (quit_of_open ∙ goes_on));
        kept_is = ap kept_of (sym (open_line-newline seen));
      }

  -- a newline after `quit`
  after_quit : (new : Work) (reply : List ℕ) → IsAnswered m.work new (last_word m.kept) (command_of m.kept) reply → is_quit m.kept ≡ true → (rest : List ℕ)
      → ServedFrom a first new.memory ((seen ++ 10 ∷ []) ++ rest) (written ++ reply)
  after_quit new reply h quits rest =
      served a first ((seen ++ 10 ∷ []) ++ rest) (written ++ reply) new.memory (whole_lines seen ++ open_line seen ∷ [])
      (ap (λ l. run_lines (lines_of l)) (append_assoc seen (10 ∷ []) rest)
      ∙ ap run_lines (lines_of-newline seen rest)
      ∙ run_lines-quit (whole_lines seen) (open_line seen) (lines_of rest) o.none_quits (quit_of_open ∙ quits))
      (answered_open new reply h)

  -- a fault while the reply to the open line was written
  after_fault : (new : Work) (reply : List ℕ) (k : ℕ) → IsAnswered m.work new (last_word m.kept) (command_of m.kept) reply → (rest : List ℕ)
      → ServedUntilWriteFrom a first new.memory ((seen ++ 10 ∷ []) ++ rest) (written ++ take k reply)
  after_fault new reply k h rest =
      fault_at a first (seen ++ 10 ∷ []) rest written (whole_lines seen) (whole_lines seen ++ open_line seen ∷ []) m.work new (open_line seen) reply k
      (inl (sym (whole_lines-newline seen)))
      (run_lines-push (whole_lines seen) (open_line seen) o.none_quits) o.same_analyst o.so_far (open_answered new reply h)

  -- a newline, when the line was run
  newline_ok : (new : Work) (before after : Option (List ℕ)) (flow : Flow) → RunsLine m.work new m.kept before after (Ok flow)
      → (more : List ℕ) × Appends before after more × Stands a first (seen ++ 10 ∷ []) (midway new []) (written ++ more) (Ok flow)
  newline_ok new before after flows.GoesOn run = (run.reply, run.ends.0, after_newline new run.reply run.answered run.ends.1)
  newline_ok new before after flows.Quits run = (run.reply, run.ends.0, after_quit new run.reply run.answered run.ends.1)

  -- a newline, when the writer failed
  newline_err : (new : Work) (before after : Option (List ℕ)) (kept : List ℕ) (e : ServeFault) → RunsLine m.work new m.kept before after (Err e)
      → (more : List ℕ) × Appends before after more × Stands a first (seen ++ 10 ∷ []) (midway new kept) (written ++ more) (Err e)
  newline_err new before after kept faults.Read run = absurd run.ends
  newline_err new before after kept faults.Write run = (take run.ends.0 run.reply, run.ends.1, after_fault new run.reply run.ends.0 run.answered)
  newline_err new before after kept faults.OutOfMemory run = absurd run.ends

  -- the end of the input, with no byte open
  pub end_none : length m.kept ≡ 0 → ServedFrom a first m.work.memory seen written
  end_none none =
      let open_none_too : length (open_line seen) ≡ 0 = kept_of-none (open_line seen) (ap length (sym o.kept_is) ∙ none) in
      served a first seen written m.work.memory (whole_lines seen) (ap run_lines (lines_of-none seen open_none_too)
      ∙ run_lines-all (whole_lines seen) o.none_quits) o.so_far

  -- the end of the input, with a last line
  last : 0 < length m.kept → lines_of seen ≡ whole_lines seen ++ open_line seen ∷ []
  last some = lines_of-some seen (kept_of-some (open_line seen) (subst (λ l. 0 < length l) o.kept_is some))

  end_served : 0 < length m.kept → (new : Work) (reply : List ℕ) → IsAnswered m.work new (last_word m.kept) (command_of m.kept) reply
      → ServedFrom a first new.memory seen (written ++ reply)
  end_served some new reply h =
      served a first seen (written ++ reply) new.memory (whole_lines seen ++ open_line seen ∷ [])
      (ap run_lines (last some) ∙ run_lines-push (whole_lines seen) (open_line seen) o.none_quits) (answered_open new reply h)

  end_fault : 0 < length m.kept → (new : Work) (reply : List ℕ) (k : ℕ) → IsAnswered m.work new (last_word m.kept) (command_of m.kept) reply
      → ServedUntilWriteFrom a first new.memory seen (written ++ take k reply)
  end_fault some new reply k h =
      subst (λ l. ServedUntilWriteFrom a first new.memory l (written ++ take k reply)) (append-nil seen)
      (fault_at a first seen [] written (whole_lines seen) (whole_lines seen ++ open_line seen ∷ []) m.work new (open_line seen) reply k
      (inr (refl, sym (last some)))
      (run_lines-push (whole_lines seen) (open_line seen) o.none_quits) o.same_analyst o.so_far (open_answered new reply h))

  end_ok : 0 < length m.kept → (new : Work) (before after : Option (List ℕ)) (flow : Flow) → RunsLine m.work new m.kept before after (Ok flow)
      → (more : List ℕ) × Appends before after more × ServedFrom a first new.memory seen (written ++ more)
  end_ok some new before after flows.GoesOn run = (run.reply, run.ends.0, end_served some new run.reply run.answered)
  end_ok some new before after flows.Quits run = (run.reply, run.ends.0, end_served some new run.reply run.answered)

  end_err : 0 < length m.kept → (new : Work) (before after : Option (List ℕ)) (e : ServeFault) → RunsLine m.work new m.kept before after (Err e)
      → (more : List ℕ) × Appends before after more × StandsAtEnd a first new.memory seen (written ++ more) (Err e)
  end_err some new before after faults.Read run = absurd run.ends
  end_err some new before after faults.Write run = (take run.ends.0 run.reply, run.ends.1, end_fault some new run.reply run.ends.0 run.answered)
  end_err some new before after faults.OutOfMemory run = absurd run.ends

  -- a fault between lines
  pub flush_fault : (rest : List ℕ) → ServedUntilWriteFrom a first m.work.memory (seen ++ rest) written
  flush_fault rest = fault_between a first seen rest written m.work.memory (whole_lines seen) (inl refl)
      (run_lines-all (whole_lines seen) o.none_quits) o.so_far

  -- the reader failed
  pub read_fault : (rest : List ℕ) → ServedUntilReadFrom a first m.work.memory (seen ++ rest) rest written
  read_fault rest = (
    o.so_far.turns,
    record {
      consumed = seen;
      split = refl;
      session = o.so_far.session;
      no_quit = o.none_quits;
      written_is = o.so_far.written_is;
    },
    o.so_far.memory_is,
  )

longer : (seen bs cs rest : List ℕ) → (seen ++ bs) ++ (cs ++ rest) ≡ (seen ++ (bs ++ cs)) ++ rest
longer seen bs cs rest = sym (append_assoc (seen ++ bs) cs rest) ∙ ap (λ l. l ++ rest) (append_assoc seen bs cs)

-- a newline runs the open line
module _ (old new : Work) (line kept : List ℕ) (b : ℕ) (before after : Option (List ℕ)) (newline : b ≡ 10) (same : line ≡ kept) where
  pub runs_newline : (kept' : List ℕ) (flow : Flow) → kept' ≡ [] → RunsLine old new line before after (Ok flow)
      → RunsBytes (b ∷ []) (midway old kept) (midway new kept') before after (Ok flow)
  runs_newline kept' flow none run =
      let ran : RunsBytes (10 ∷ []) (midway old kept) (midway new []) before after (Ok flow) = (
        answered_same old new (last_word line) (command_of line) run.reply run.answered,
        λ a first seen written o. newline_ok a first seen (midway old kept) written o new before after flow
            (subst (λ l. RunsLine old new l before after (Ok flow)) same run),
      ) in
      subst (λ d. RunsBytes (d ∷ []) (midway old kept) (midway new kept') before after (Ok flow)) (sym newline)
      (subst (λ k. RunsBytes (10 ∷ []) (midway old kept) (midway new k) before after (Ok flow)) (sym none) ran)

  pub runs_newline_fault : (kept' : List ℕ) (e : ServeFault) (result : Result Flow ServeFault) → result ≡ Err e → RunsLine old new line before after (Err e)
      → RunsBytes (b ∷ []) (midway old kept) (midway new kept') before after result
  runs_newline_fault kept' e result is run =
      let ran : RunsBytes (10 ∷ []) (midway old kept) (midway new kept') before after (Err e) = (
        answered_same old new (last_word line) (command_of line) run.reply run.answered,
        λ a first seen written o. newline_err a first seen (midway old kept) written o new before after kept' e
            (subst (λ l. RunsLine old new l before after (Err e)) same run),
      ) in
      subst (λ d. RunsBytes (d ∷ []) (midway old kept) (midway new kept') before after result) (sym newline)
      (subst (λ r. RunsBytes (10 ∷ []) (midway old kept) (midway new kept') before after r) (sym is) ran)

-- any other byte is kept
pub runs_other : (state : Work) (kept kept' : List ℕ) (b : ℕ) (a : Option (List ℕ)) → (b ≡ 10 → ⊥) → kept' ≡ kept_of (kept ++ b ∷ [])
    → RunsBytes (b ∷ []) (midway state kept) (midway state kept') a a (Ok flows.GoesOn)
runs_other state kept kept' b a other is = (
  refl,
  λ analyst first seen written o.
      ([], appends_nil a a (Keeps-refl a), rw (append-nil written, is) (after_other analyst first seen (midway state kept) written o b other)),
)

-- no bytes
pub runs_none : (m : Midway) (a : Option (List ℕ)) → RunsBytes [] m m a a (Ok flows.GoesOn)
runs_none m a = (refl, λ analyst first seen written o. ([], appends_nil a a (Keeps-refl a), rw (append-nil written, append-nil seen) o))

-- and more bytes
pub runs_both : (bs cs : List ℕ) (m m' m'' : Midway) (a b c : Option (List ℕ)) (result : Result Flow ServeFault)
    → RunsBytes bs m m' a b (Ok flows.GoesOn) → RunsBytes cs m' m'' b c result → RunsBytes (bs ++ cs) m m'' a c result
runs_both bs cs m m' m'' a b c result (same, run) (same', run') = (
  same' ∙ same,
  λ analyst first seen written o.
      let one = run analyst first seen written o in
      let two = run' analyst first (seen ++ bs) (written ++ one.0) one.2 in (
        one.0 ++ two.0,
        appends_both a b c one.0 two.0 one.1 two.1,
        subst (λ l. Stands analyst first l m'' (written ++ (one.0 ++ two.0)) result) (append_assoc seen bs cs)
            (subst (λ l. Stands analyst first ((seen ++ bs) ++ cs) m'' l result) (append_assoc written one.0 two.0) two.2),
      ),
)

-- bytes after `quit` are not run
pub runs_quit : (bs cs : List ℕ) (m m' : Midway) (a b : Option (List ℕ)) → RunsBytes bs m m' a b (Ok flows.Quits)
    → RunsBytes (bs ++ cs) m m' a b (Ok flows.Quits)
runs_quit bs cs m m' a b (same, run) = (
  same,
  λ analyst first seen written o.
      let one = run analyst first seen written o in
      (one.0, one.1, λ rest. subst (λ l. ServedFrom analyst first m'.work.memory l (written ++ one.0)) (longer seen bs cs rest) (one.2 (cs ++ rest))),
)

-- nor after a fault
pub runs_fault : (bs cs : List ℕ) (m m' : Midway) (a b : Option (List ℕ)) (e : ServeFault) → RunsBytes bs m m' a b (Err e)
    → RunsBytes (bs ++ cs) m m' a b (Err e)
runs_fault bs cs m m' a b faults.Read (same, run) = (same, λ analyst first seen written o. run analyst first seen written o)
runs_fault bs cs m m' a b faults.Write (same, run) = (
  same,
  λ analyst first seen written o.
      let one = run analyst first seen written o in
      (one.0, one.1, λ rest. subst (λ l. ServedUntilWriteFrom analyst first m'.work.memory l (written ++ one.0)) (longer seen bs cs rest) (one.2 (cs ++ rest))),
)
runs_fault bs cs m m' a b faults.OutOfMemory (same, run) = (same, λ analyst first seen written o. run analyst first seen written o)

-- the bytes of a text in turn
module _ (bytes : List ℕ) (m m' : Midway) (a b : Option (List ℕ)) where
  pub runs_next : (i : ℕ) (mid : Midway) (c : Option (List ℕ)) (result : Result Flow ServeFault) → i < length bytes
      → RunsBytes (take i bytes) m mid a c (Ok flows.GoesOn) → RunsBytes (get_or bytes i 0 ∷ []) mid m' c b result
      → RunsBytes (take (i + 1) bytes) m m' a b result
  runs_next i mid c result lt first second =
      subst (λ l. RunsBytes l m m' a b result) (sym (take_more bytes i 0 lt))
      (runs_both (take i bytes) (get_or bytes i 0 ∷ []) m mid m' a c b result first second)

  pub runs_all : (i : ℕ) → length bytes ≤ i → RunsBytes (take i bytes) m m' a b (Ok flows.GoesOn) → RunsBytes bytes m m' a b (Ok flows.GoesOn)
  runs_all i le run = subst (λ l. RunsBytes l m m' a b (Ok flows.GoesOn)) (take_all i bytes le) run

  pub runs_past_quit : (i : ℕ) → RunsBytes (take i bytes) m m' a b (Ok flows.Quits) → RunsBytes bytes m m' a b (Ok flows.Quits)
  runs_past_quit i run = subst (λ l. RunsBytes l m m' a b (Ok flows.Quits)) (take-append-drop i bytes) (runs_quit (take i bytes) (drop i bytes) m m' a b run)

  pub runs_past_fault : (i : ℕ) (e : ServeFault) (result : Result Flow ServeFault) → result ≡ Err e → RunsBytes (take i bytes) m m' a b (Err e)
      → RunsBytes bytes m m' a b result
  runs_past_fault i e result is run =
      subst (RunsBytes bytes m m' a b) (sym is)
      (subst (λ l. RunsBytes l m m' a b (Err e)) (take-append-drop i bytes) (runs_fault (take i bytes) (drop i bytes) m m' a b e run))

-- the end of the input
module _ (m : Midway) (a b : Option (List ℕ)) (done : Unit {0}) where
  pub runs_end_none : length m.kept ≡ 0 → RunsEnd m m.work a a (Ok done)
  runs_end_none none = (
    refl,
    λ analyst first seen written o.
        ([], appends_nil a a (Keeps-refl a), rw (append-nil written) (end_none analyst first seen m written o none)),
  )

  pub runs_end : (new : Work) (flow : Flow) → 0 < length m.kept → RunsLine m.work new m.kept a b (Ok flow) → RunsEnd m new a b (Ok done)
  runs_end new flow some run = (
    answered_same m.work new (last_word m.kept) (command_of m.kept) run.reply run.answered,
    λ analyst first seen written o. end_ok analyst first seen m written o some new a b flow run,
  )

  pub runs_end_fault : (new : Work) (e : ServeFault) (result : Result (Unit {0}) ServeFault) → result ≡ Err e → 0 < length m.kept
      → RunsLine m.work new m.kept a b (Err e) → RunsEnd m new a b result
  runs_end_fault new e result is some run =
      subst (RunsEnd m new a b) (sym is) (
        answered_same m.work new (last_word m.kept) (command_of m.kept) run.reply run.answered,
        λ analyst first seen written o. end_err analyst first seen m written o some new a b e run,
      )

-- how serving stands between refills: what was read, what was written, and that it is open
pub record IsRunning (a : Analyst) (first : Memory) (input rest before after : Option (List ℕ)) (m : Midway) : Type 0 where
  pub seen : List ℕ
  pub written : List ℕ
  pub consumed : Consumes input rest seen
  pub appended : Appends before after written
  pub is_open : IsOpen a first seen m written

pub running_none : (work : Work) (kept : List ℕ) (input before : Option (List ℕ)) → kept ≡ [] → IsRunning work.analyst work.memory input input before before
    (midway work kept)
running_none work kept input before none = record {
  seen = [];
  written = [];
  consumed = consumes_nil input;
  appended = appends_nil before before (Keeps-refl before);
  is_open = subst (λ (k : List ℕ). IsOpen work.analyst work.memory [] (midway work k) []) (sym none) (open_none work);
}

-- what holds of the bytes that were read and of those that are left holds of the input
at_input : (input rest : Option (List ℕ)) (seen : List ℕ) (P : List ℕ → Type 0) → Consumes input rest seen
    → ((left : List ℕ) → IsLeft input rest left → P (seen ++ left)) → OfBytes input P
at_input None rest seen P c f = (seen ++ [], tt, f [] tt)
at_input (Some xs) None seen P c f = absurd c
at_input (Some xs) (Some ys) seen P c f = (seen ++ ys, c, f ys refl)

no_bytes : (bs : List ℕ) → length bs ≡ 0 → bs ≡ []
no_bytes [] h = refl
no_bytes (b ∷ bs) h = absurd (omega arith)

-- what holds of the bytes that were read holds of the input, where a read at its end gave nothing
at_end : (input rest rest' : Option (List ℕ)) (seen bytes : List ℕ) (P : List ℕ → Type 0) → Consumes input rest seen → Consumes rest rest' bytes
    → length bytes ≡ 0 → OnSome rest (IsAtEnd rest') → P seen → OfBytes input P
at_end None rest rest' seen bytes P c more none end h = (seen, tt, h)
at_end (Some xs) None rest' seen bytes P c more none end h = absurd c
at_end (Some xs) (Some ys) None seen bytes P c more none end h = absurd more
at_end (Some xs) (Some ys) (Some zs) seen bytes P c more none end h =
    let empty : ys ≡ [] = more ∙ ap (λ l. l ++ zs) (no_bytes bytes none) ∙ end in
    (seen, c ∙ ap (λ l. seen ++ l) empty ∙ append-nil seen, h)

module _ (old : Work) (input rest before after : Option (List ℕ)) (m : Midway) (r : IsRunning old.analyst old.memory input rest before after m) where
  same : m.work.analyst ≡ old.analyst
  same = r.is_open.same_analyst

  -- no more is read
  pub read_ends : (rest' after' : Option (List ℕ)) → Keeps after after' → Keeps rest rest' → RunsInput old m.work input rest' before after' (Err faults.Read)
  read_ends rest' after' handed none = record {
    same_analyst = same;
    serves = at_input input rest' r.seen (λ bytes. (left : List ℕ) × IsLeft input rest' left
        × ((written : List ℕ) × Appends before after' written × ServedUntilReadFrom old.analyst old.memory m.work.memory bytes left written))
        (consumes_kept input rest rest' r.seen r.consumed none)
        (λ left is. (
          left,
          is,
          (
            r.written,
            appends_kept before after after' r.written r.appended handed,
            read_fault old.analyst old.memory r.seen m r.written
                r.is_open left,
          ),
        ));
  }

  -- what was written could not be handed on
  pub flush_ends : (after' : Option (List ℕ)) → Keeps after after' → RunsInput old m.work input rest before after' (Err faults.Write)
  flush_ends after' handed = record {
    same_analyst = same;
    serves = at_input input rest r.seen (λ bytes. (written : List ℕ) × Appends before after' written
        × ServedUntilWriteFrom old.analyst old.memory m.work.memory bytes written) r.consumed
        (λ left is. (
          r.written,
          appends_kept before after after' r.written r.appended handed,
          flush_fault old.analyst old.memory r.seen m r.written r.is_open
              left,
        ));
  }

  module _ (rest' after' : Option (List ℕ)) (bytes : List ℕ) (handed : Keeps after after') (more : Consumes rest rest' bytes) (after'' : Option (List ℕ)) where
    consumed : Consumes input rest' (r.seen ++ bytes)
    consumed = consumes_both input rest rest' r.seen bytes r.consumed more

    appended : (written : List ℕ) → Appends after' after'' written → Appends before after'' (r.written ++ written)
    appended written h = appends_both before after' after'' r.written written (appends_kept before after after' r.written r.appended handed) h

    -- bytes with no `quit` were run
    pub running_read : (m' : Midway) → RunsBytes bytes m m' after' after'' (Ok flows.GoesOn) → IsRunning old.analyst old.memory input rest' before after'' m'
    running_read m' (kept, run) =
        let one = run old.analyst old.memory r.seen r.written r.is_open in
        record { seen = r.seen ++ bytes; written = r.written ++ one.0; consumed = consumed; appended = appended one.0 one.1; is_open = one.2 }

    -- bytes with a `quit` were run
    pub quit_ends : (m' : Midway) (done : Unit {0}) → RunsBytes bytes m m' after' after'' (Ok flows.Quits) → RunsInput old m'.work input rest' before after''
        (Ok done)
    quit_ends m' done (kept, run) =
        let one = run old.analyst old.memory r.seen r.written r.is_open in
        record {
          same_analyst = kept ∙ same;
          serves = at_input input rest' (r.seen ++ bytes) (λ all. (written : List ℕ) × Appends before after'' written
              × ServedFrom old.analyst old.memory m'.work.memory all written) consumed
              (λ left is. (r.written ++ one.0, appended one.0 one.1, one.2 left));
        }

    -- the writer failed while bytes were run
    pub fault_ends : (m' : Midway) (e : ServeFault) (result : Result (Unit {0}) ServeFault) → result ≡ Err e → RunsBytes bytes m m' after' after'' (Err e)
        → RunsInput old m'.work input rest' before after'' result
    fault_ends m' e result is (kept, run) =
        record {
          same_analyst = kept ∙ same;
          serves = subst (ServesFrom old.analyst old.memory m'.work.memory input rest' before after'') (sym is)
              (at_fault e run);
        }
      where
        at_fault : (f : ServeFault) → ((b : Analyst) (start : Memory) (seen written : List ℕ) → IsOpen b start seen m written
            → (extra : List ℕ) × Appends after' after'' extra × Stands b start (seen ++ bytes) m' (written ++ extra) (Err f))
            → ServesFrom old.analyst old.memory m'.work.memory input rest' before after'' (Err f)
        at_fault faults.Read ran = absurd (ran old.analyst old.memory r.seen r.written r.is_open).2
        at_fault faults.Write ran =
            let one = ran old.analyst old.memory r.seen r.written r.is_open in
            at_input input rest' (r.seen ++ bytes) (λ all. (written : List ℕ) × Appends before after'' written
            × ServedUntilWriteFrom old.analyst old.memory m'.work.memory all written) consumed
            (λ left is'. (r.written ++ one.0, appended one.0 one.1, one.2 left))
        at_fault faults.OutOfMemory ran = absurd (ran old.analyst old.memory r.seen r.written r.is_open).2

    -- the input has ended
    pub end_ends : (new : Work) (result : Result (Unit {0}) ServeFault) → length bytes ≡ 0 → OnSome rest (IsAtEnd rest') → RunsEnd m new after' after'' result
        → RunsInput old new input rest' before after'' result
    end_ends new result none end (kept, run) = record { same_analyst = kept ∙ same; serves = at_result result run }
      where
        at_result : (q : Result (Unit {0}) ServeFault) → ((b : Analyst) (start : Memory) (seen written : List ℕ) → IsOpen b start seen m written
            → (extra : List ℕ) × Appends after' after'' extra × StandsAtEnd b start new.memory seen (written ++ extra) q)
            → ServesFrom old.analyst old.memory new.memory input rest' before after'' q
        at_result (Ok done) ran =
            let one = ran old.analyst old.memory r.seen r.written r.is_open in
            at_end input rest rest' r.seen bytes (λ all. (written : List ℕ) × Appends before after'' written
            × ServedFrom old.analyst old.memory new.memory all written) r.consumed more none end
            (r.written ++ one.0, appended one.0 one.1, one.2)
        at_result (Err faults.Read) ran = absurd (ran old.analyst old.memory r.seen r.written r.is_open).2
        at_result (Err faults.Write) ran =
            let one = ran old.analyst old.memory r.seen r.written r.is_open in
            at_end input rest rest' r.seen bytes (λ all. (written : List ℕ) × Appends before after'' written
            × ServedUntilWriteFrom old.analyst old.memory new.memory all written) r.consumed more none end
            (r.written ++ one.0, appended one.0 one.1, one.2)
        at_result (Err faults.OutOfMemory) ran = absurd (ran old.analyst old.memory r.seen r.written r.is_open).2

-- the same as at a fault of the writer between two lines
until_write : (a : Analyst) (first last : Memory) (input written : List ℕ) → ServedFrom a first last input written
    → ServedUntilWriteFrom a first last input written
until_write a first last input written (turns, s, is) = (
  turns,
  record {
    consumed = input;
    rest = [];
    split = sym (append-nil input);
    lines = lines_of input;
    read = inr (refl, refl);
    session = s.session;
    whole = turns;
    broken = [];
    turns_are = sym (append-nil turns);
    one_at_most = omega arith;
    part = [];
    more = [];
    broken_is = refl;
    written_is = s.written_is ∙ sym (append-nil (replies turns));
  },
  is,
)

-- what was written is handed on
pub served_kept : (old new : Work) (input rest before after after' : Option (List ℕ)) (done done' : Unit {0})
    → RunsInput old new input rest before after (Ok done) → Keeps after after' → RunsInput old new input rest before after' (Ok done')
served_kept old new input rest before after after' done done' s handed = record {
  same_analyst = s.same_analyst;
  serves = (s.serves.0, s.serves.1, (s.serves.2.0, appends_kept before after after' s.serves.2.0 s.serves.2.1 handed, s.serves.2.2));
}

-- it can't be
pub served_lost : (old new : Work) (input rest before after after' : Option (List ℕ)) (done : Unit {0}) → RunsInput old new input rest before after (Ok done)
    → Keeps after after' → RunsInput old new input rest before after' (Err faults.Write)
served_lost old new input rest before after after' done s handed = record {
  same_analyst = s.same_analyst;
  serves = (
    s.serves.0,
    s.serves.1,
    (
      s.serves.2.0,
      appends_kept before after after' s.serves.2.0 s.serves.2.1 handed,
      until_write old.analyst old.memory new.memory s.serves.0 s.serves.2.0 s.serves.2.2,
    ),
  );
}
