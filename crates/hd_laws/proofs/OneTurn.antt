-- What a plain turn answers and leaves is one, where nothing came between it and what was remembered.
use Rattle.std.proofs.Common.{◌≡◌, ◌∙◌, ℕ, ◌<◌, ◌⊎◌, inl, inr, Bool, List, length, Option, Some, None, Result, Ok, Err, sym, ap, subst, arith}
use Rattle.hd_terms.specs.declared.Event.{Event}
use Rattle.hd_terms.specs.declared.What.{What}
use Rattle.hd_lines.specs.declared.commands.Command.{Command}
use Rattle.hd_lines.specs.declared.commands.Command.TheVariants as commands
use Rattle.hd_lines.specs.declared.commands.LineFault.{LineFault}
use Rattle.hd_terms.specs.declared.errors.Refusal.{Refusal}
use Rattle.hd_terms.specs.Appending.{append_refusal}
use Rattle.hd_lines.specs.Asking.{asked}
use Rattle.hd_terms.specs.Dump.{Dump}
use Rattle.hd_lines.specs.Lines.{command_of, last_word}
use Rattle.hd_lines.specs.Memory.{Memory, at_log, most_marks, with_mark, with_names}
use Rattle.hd_lines.specs.Replies.{RepliesTo, RepliesDone, mark_reply, names_reply, refused, refusal_name}
use Rattle.hd_lines.specs.Sessions.{Analyst, Turn, IsTurn, roots_at}
use Rattle.hd_terms.specs.Appending.{event_by, with_event}
use Rattle.hd_lines.specs.Sessions as sessions
use Rattle.hd_laws.specs.Plain.{AsksNoChain, IsPlain}
use Rattle.hd_laws.proofs.OneReply.{one_done, one_reply}

some_none : {X : Type 0} (x : X) → Some x ≡ None → ⊥
some_none x h = absurd cc

some_same : {X : Type 0} (x y : X) → Some x ≡ Some y → x ≡ y
some_same x y h = cc

-- what a command asks of the log; a line that is none asks nothing
abbrev asked_by : Dump → List Event → ℕ → Result Command LineFault → Option (Result What Refusal)
asked_by dump log who (Err f) = None
asked_by dump log who (Ok c) = asked dump log who c

-- what is answered without an event isn't asked of the log
quiet_asks : (dump : Dump) (m : Memory) (text : List ℕ) (who : ℕ) (r : Result Command LineFault) (reply : List ℕ) (x : Result What Refusal)
    → RepliesTo dump m text r reply → asked_by dump m.log who r ≡ Some x → ⊥
quiet_asks dump m text who (Err f) reply x h asks = some_none x (sym asks)
quiet_asks dump m text who (Ok (commands.Ask most query)) reply x h asks = some_none x (sym asks)
quiet_asks dump m text who (Ok (commands.Names on)) reply x h asks = h
quiet_asks dump m text who (Ok (commands.Edit edit)) reply x h asks = h
quiet_asks dump m text who (Ok (commands.Undo number)) reply x h asks = h
quiet_asks dump m text who (Ok commands.Mark) reply x h asks = some_none x (sym asks)
quiet_asks dump m text who (Ok commands.Private) reply x h asks = some_none x (sym asks)
quiet_asks dump m text who (Ok commands.Back) reply x h asks = some_none x (sym asks)
quiet_asks dump m text who (Ok commands.Quit) reply x h asks = some_none x (sym asks)

module _ (a : Analyst) (m : Memory) (text : List ℕ) (found : List Event) where
  -- the log has the event of what was asked
  abbrev more : What → List Event
  more what = with_event found (event_by a.who what)

  -- why the log doesn't take it, if it doesn't
  abbrev refusal_of : What → Option Refusal
  refusal_of what = append_refusal (roots_at a m.home) found (event_by a.who what)

  -- how what was asked of the log ends
  abbrev Ends : Result What Refusal → (reply : List ℕ) → (after : Memory) → Type 0
  Ends (Err r) reply after = (reply ≡ refused (refusal_name r)) × (after ≡ at_log m found)
  Ends (Ok what) reply after =
      ((r : Refusal) × (refusal_of what ≡ Some r) × (reply ≡ refused (refusal_name r)) × (after ≡ at_log m found))
      ⊎ ((refusal_of what ≡ None) × RepliesDone a.dump found (more what) reply × (after ≡ at_log m (more what)))

  -- a plain turn: what changes nothing, what is asked of the log, a mark, and `names`
  abbrev Quiet : Result Command LineFault → (reply : List ℕ) → (after : Memory) → Type 0
  Quiet r reply after = RepliesTo a.dump m text r reply × (after ≡ at_log m found)

  abbrev Asks : Result Command LineFault → (reply : List ℕ) → (after : Memory) → Type 0
  Asks r reply after = (x : Result What Refusal) × (asked_by a.dump m.log a.who r ≡ Some x) × Ends x reply after

  abbrev Marks : Result Command LineFault → (reply : List ℕ) → (after : Memory) → Type 0
  Marks r reply after = (r ≡ Ok commands.Mark) × (length m.marks < most_marks) × (reply ≡ mark_reply (length m.marks)) × (after ≡ with_mark m)

  abbrev Renames : Result Command LineFault → (reply : List ℕ) → (after : Memory) → Type 0
  Renames r reply after = (on : Bool) × (r ≡ Ok (commands.Names on)) × (reply ≡ names_reply) × (after ≡ with_names m on)

  abbrev pub Outcome : Result Command LineFault → (reply : List ℕ) → (after : Memory) → Type 0
  Outcome r reply after = Quiet r reply after ⊎ (Asks r reply after ⊎ (Marks r reply after ⊎ Renames r reply after))

  one_end : (x : Result What Refusal) (reply other : List ℕ) (after later : Memory) → Ends x reply after → Ends x other later → (reply ≡ other)
      × (after ≡ later)
  one_end (Err r) reply other after later (says, l) (too, also) = (says ∙ sym too, l ∙ sym also)
  one_end (Ok what) reply other after later (inl (r, refuses, says, l)) (inl (q, also, too, k)) =
      (says ∙ ap (λ (x : Refusal). refused (refusal_name x)) (some_same r q (sym refuses ∙ also)) ∙ sym too, l ∙ sym k)
  one_end (Ok what) reply other after later (inl (r, refuses, says, l)) (inr (takes, done, k)) = absurd (some_none r (sym refuses ∙ takes))
  one_end (Ok what) reply other after later (inr (takes, done, l)) (inl (q, refuses, says, k)) = absurd (some_none q (sym refuses ∙ takes))
  one_end (Ok what) reply other after later (inr (takes, done, l)) (inr (also, too, k)) = (one_done a.dump found (more what) reply other done too, l ∙ sym k)

  -- a mark that is refused isn't added
  no_room : (r : Result Command LineFault) (reply : List ℕ) → RepliesTo a.dump m text r reply → r ≡ Ok commands.Mark → length m.marks < most_marks → ⊥
  no_room r reply h is room =
      let refuses = subst (λ (x : Result Command LineFault). RepliesTo a.dump m text x reply) is h in
      let full = refuses.full in
      absurd (omega (arith, full, room))

  -- a mark asks nothing of the log
  no_event : (r : Result Command LineFault) (x : Result What Refusal) → asked_by a.dump m.log a.who r ≡ Some x → r ≡ Ok commands.Mark → ⊥
  no_event r x asks is = some_none x (sym (subst (λ (y : Result Command LineFault). asked_by a.dump m.log a.who y ≡ Some x) is asks))

  -- `names` isn't answered as what changes nothing, asks nothing of the log, and is no mark
  no_quiet : (r : Result Command LineFault) (reply : List ℕ) (on : Bool) → RepliesTo a.dump m text r reply → r ≡ Ok (commands.Names on) → ⊥
  no_quiet r reply on h is = subst (λ (x : Result Command LineFault). RepliesTo a.dump m text x reply) is h

  no_asking : (r : Result Command LineFault) (x : Result What Refusal) (on : Bool) → asked_by a.dump m.log a.who r ≡ Some x → r ≡ Ok (commands.Names on) → ⊥
  no_asking r x on asks is = some_none x (sym (subst (λ (y : Result Command LineFault). asked_by a.dump m.log a.who y ≡ Some x) is asks))

  no_mark : (r : Result Command LineFault) (on : Bool) → r ≡ Ok commands.Mark → r ≡ Ok (commands.Names on) → ⊥
  no_mark r on is also = absurd cc

  same_switch : (r : Result Command LineFault) (on off : Bool) → r ≡ Ok (commands.Names on) → r ≡ Ok (commands.Names off) → on ≡ off
  same_switch r on off is also = cc

  pub one_outcome : (r : Result Command LineFault) (reply other : List ℕ) (after later : Memory) → Outcome r reply after → Outcome r other later
      → (AsksNoChain r → reply ≡ other) × (after ≡ later)
  one_outcome r reply other after later (inl (says, l)) (inl (too, k)) = ((λ no_chain. one_reply a.dump m text r reply other no_chain says too), l ∙ sym k)
  one_outcome r reply other after later (inl (says, l)) (inr (inl (x, asks, ends))) = absurd (quiet_asks a.dump m text a.who r reply x says asks)
  one_outcome r reply other after later (inl (says, l)) (inr (inr (inl (is, room, too, k)))) = absurd (no_room r reply says is room)
  one_outcome r reply other after later (inl (says, l)) (inr (inr (inr (on, is, too, k)))) = absurd (no_quiet r reply on says is)
  one_outcome r reply other after later (inr (inl (x, asks, ends))) (inl (says, l)) = absurd (quiet_asks a.dump m text a.who r other x says asks)
  one_outcome r reply other after later (inr (inl (x, asks, ends))) (inr (inl (y, also, too))) =
      let both = one_end y reply other after later (subst (λ (z : Result What Refusal). Ends z reply after) (some_same x y (sym asks ∙ also)) ends) too in
      ((λ no_chain. both.0), both.1)
  one_outcome r reply other after later (inr (inl (x, asks, ends))) (inr (inr (inl (is, room, too, k)))) = absurd (no_event r x asks is)
  one_outcome r reply other after later (inr (inl (x, asks, ends))) (inr (inr (inr (on, is, too, k)))) = absurd (no_asking r x on asks is)
  one_outcome r reply other after later (inr (inr (inl (is, room, says, l)))) (inl (too, k)) = absurd (no_room r other too is room)
  one_outcome r reply other after later (inr (inr (inl (is, room, says, l)))) (inr (inl (x, asks, ends))) = absurd (no_event r x asks is)
  one_outcome r reply other after later (inr (inr (inl (is, room, says, l)))) (inr (inr (inl (too, also, replies, k)))) =
      ((λ no_chain. says ∙ sym replies), l ∙ sym k)
  one_outcome r reply other after later (inr (inr (inl (is, room, says, l)))) (inr (inr (inr (on, also, too, k)))) = absurd (no_mark r on is also)
  one_outcome r reply other after later (inr (inr (inr (on, is, says, l)))) (inl (too, k)) = absurd (no_quiet r other on too is)
  one_outcome r reply other after later (inr (inr (inr (on, is, says, l)))) (inr (inl (x, asks, ends))) = absurd (no_asking r x on asks is)
  one_outcome r reply other after later (inr (inr (inr (on, is, says, l)))) (inr (inr (inl (also, room, too, k)))) = absurd (no_mark r on also is)
  one_outcome r reply other after later (inr (inr (inr (on, is, says, l)))) (inr (inr (inr (off, also, too, k)))) =
      ((λ no_chain. says ∙ sym too), l ∙ ap (with_names m) (same_switch r on off is also) ∙ sym k)

  -- no private part is open after it
  open_end : (x : Result What Refusal) (reply : List ℕ) (after : Memory) → Ends x reply after → m.home ≡ None → after.home ≡ None
  open_end (Err r) reply after (says, l) none = ap (λ (k : Memory). k.home) l ∙ none
  open_end (Ok what) reply after (inl (r, refuses, says, l)) none = ap (λ (k : Memory). k.home) l ∙ none
  open_end (Ok what) reply after (inr (takes, done, l)) none = ap (λ (k : Memory). k.home) l ∙ none

  pub none_open : (r : Result Command LineFault) (reply : List ℕ) (after : Memory) → Outcome r reply after → m.home ≡ None → after.home ≡ None
  none_open r reply after (inl (says, l)) none = ap (λ (k : Memory). k.home) l ∙ none
  none_open r reply after (inr (inl (x, asks, ends))) none = open_end x reply after ends none
  none_open r reply after (inr (inr (inl (is, room, says, l)))) none = ap (λ (k : Memory). k.home) l ∙ none
  none_open r reply after (inr (inr (inr (on, is, says, l)))) none = ap (λ (k : Memory). k.home) l ∙ none

-- a plain turn outside a private part comes out so
pub outcome_of : (a : Analyst) (t : Turn) → IsTurn a t → IsPlain t → t.before.home ≡ None
    → Outcome a t.before (last_word t.line) t.found (command_of t.line) t.reply t.after
outcome_of a t (sessions.answered r f l) plain none = inl (r, l)
outcome_of a t (sessions.declined c r is asks says f l) plain none = inr (inl (Err r, ap (asked_by a.dump t.before.log a.who) is ∙ asks, (says, l)))
outcome_of a t (sessions.rejected c what r is asks refuses says l) plain none =
    inr (inl (Ok what, ap (asked_by a.dump t.before.log a.who) is ∙ asks, inl (r, refuses, says, l)))
outcome_of a t (sessions.accepted c what is asks takes done l) plain none =
    inr (inl (Ok what, ap (asked_by a.dump t.before.log a.who) is ∙ asks, inr (takes, done, l)))
outcome_of a t (sessions.unfinished c what is asks takes says l) plain none = absurd (plain.finished (length t.found) says)
outcome_of a t (sessions.marked is room says f l) plain none = inr (inr (inl (is, room, says, l)))
outcome_of a t (sessions.renamed on is says f l) plain none = inr (inr (inr (on, is, says, l)))
outcome_of a t (sessions.gone_private is was_none says f l) plain none = absurd (plain.is_open is)
outcome_of a t (sessions.gone_back home is was_open says f l) plain none = absurd (some_none home (sym was_open ∙ none))
outcome_of a t (sessions.unserved needs says f l) plain none = absurd (plain.served says)
