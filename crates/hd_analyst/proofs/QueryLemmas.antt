-- Replies to queries, by the object or the mark that they name, and as turns of a session.
use Rattle.std.proofs.Common.{◌≡◌, ◌∙◌, ℕ, zero, suc, List, [], ◌∷◌, map, take, Option, Some, None, Result, Ok, inl, inr, sym, ap, subst, refl, append-nil}
use Rattle.std.specs.Prelude.{Bool, All, slice_get}
use Rattle.std.specs.Option.{option_map}
use Rattle.std.proofs.lemmas.Option.{slice_get_cases, slice_get-map}
use Rattle.hd_terms.specs.declared.errors.Refusal.TheVariants as refusals
use Rattle.hd_terms.specs.declared.Event.{Event}
use Rattle.hd_lines.specs.declared.commands.Command.{Command}
use Rattle.hd_lines.specs.declared.commands.Command.TheVariants as commands
use Rattle.hd_lines.specs.declared.commands.LineFault.{LineFault}
use Rattle.hd_lines.specs.declared.commands.Query.{Query}
use Rattle.hd_lines.specs.declared.commands.Query.TheVariants as queries
use Rattle.hd_terms.specs.Dump.{Dump}
use Rattle.hd_lines.specs.Lines.{command_of, last_word}
use Rattle.hd_lines.specs.Memory.{Memory}
use Rattle.hd_lines.specs.Replies.{Answer, IsUnserved, RepliesTo, no_such_mark, no_such_object, refused, refusal_name, refreshes}
use Rattle.hd_terms.specs.Listed.{first_items}
use Rattle.hd_lines.specs.Sessions.{IsTurn, answered, unserved}
use Rattle.hd_state.specs.Situation.{Situation}
use Rattle.hd_state.specs.Solution.{Solution}
use Rattle.hd_analyst.specs.declared.texts.Showing.{Showing}
use Rattle.hd_analyst.specs.Answering.{IsRun, turn_of}
use Rattle.hd_analyst.specs.Replying.{IsQueryReply, IsWritten}
use Rattle.hd_analyst.specs.Work.{Work, logs_of, memory_at}

-- the reply to another query that is the same
pub answers_as : (state : Solution) (marks : List Situation) (showing : Showing) (text : List ℕ) (query same : Query) (reply told : List ℕ) → query ≡ same
    → reply ≡ told
    → IsQueryReply state marks showing text same told → IsQueryReply state marks showing text query reply
answers_as state marks showing text query same reply told p q h =
    subst (λ (c : Query). IsQueryReply state marks showing text c reply) (sym p) (subst (IsQueryReply state marks showing text same) (sym q) h)

module _ (Answers : Option ℕ → Answer → Type 0) (most : Option ℕ) where
  -- an answer about an object that is found, or about none
  pub about_object : (found : Option ℕ) (o : ℕ) (reply : List ℕ) → found ≡ Some o → IsWritten (Answers (Some o)) most reply
      → IsWritten (Answers found) most reply
  about_object found o reply is h = subst (λ (x : Option ℕ). IsWritten (Answers x) most reply) (sym is) h

  pub about_none : (found : Option ℕ) (reply : List ℕ) → Answers None no_such_object → found ≡ None → reply ≡ refused (refusal_name refusals.NoSuchObject)
      → IsWritten (Answers found) most reply
  about_none found reply none is says = subst (λ (x : Option ℕ). IsWritten (Answers x) most reply) (sym is) (no_such_object, none, says)

-- the first of the lines of the first
take_of_taken : (n : ℕ) (line : ℕ → List ℕ) (xs : List ℕ) → take n (map line (take n xs)) ≡ take n (map line xs)
take_of_taken zero line xs = refl
take_of_taken (suc n) line [] = refl
take_of_taken (suc n) line (x ∷ xs) = ap (λ (lines : List (List ℕ)). line x ∷ lines) (take_of_taken n line xs)

pub first_of_first : (most : Option ℕ) (line : ℕ → List ℕ) (xs : List ℕ) → first_items most (map line (first_items most xs)) ≡ first_items most (map line xs)
first_of_first None line xs = refl
first_of_first (Some n) line xs = take_of_taken n line xs

-- of one line the first ones are that line, unless none is wanted
pub first_of_one : (most : Option ℕ) (line : List ℕ) → (most ≡ Some 0 → ⊥) → first_items most (line ∷ []) ≡ line ∷ []
first_of_one None line some = refl
first_of_one (Some zero) line some = absurd (some refl)
first_of_one (Some (suc zero)) line some = refl
first_of_one (Some (suc (suc n))) line some = refl

-- the log of a mark by its number
log_of : (marks : List Situation) (k : ℕ) (at : Option Situation) → slice_get marks k ≡ at
    → slice_get (logs_of marks) k ≡ option_map (λ (mark : Situation). mark.log) at
log_of marks k at is = slice_get-map (λ (mark : Situation). mark.log) marks k ∙ ap (option_map (λ (mark : Situation). mark.log)) is

module _ (Answers : Option (List Event) → Answer → Type 0) (most : Option ℕ) (marks : List Situation) (k : ℕ) (reply : List ℕ) where
  -- an answer about a mark that there is, or about none
  pub about_mark : (mark : Situation) → slice_get marks k ≡ Some mark → IsWritten (Answers (Some mark.log)) most reply
      → IsWritten (Answers (slice_get (logs_of marks) k)) most reply
  about_mark mark is h = subst (λ (x : Option (List Event)). IsWritten (Answers x) most reply) (sym (log_of marks k (Some mark) is)) h

  pub about_no_mark : Answers None no_such_mark → slice_get marks k ≡ None → reply ≡ refused (refusal_name refusals.NoSuchMark)
      → IsWritten (Answers (slice_get (logs_of marks) k)) most reply
  about_no_mark none is says = subst (λ (x : Option (List Event)). IsWritten (Answers x) most reply) (sym (log_of marks k None is)) (no_such_mark, none, says)

-- what holds of all marks holds of each
pub of_mark : (marks : List Situation) (dump : Dump) (k : ℕ) (mark : Situation) → All (λ (m : Situation). m.dump ≡ dump) marks → slice_get marks k ≡ Some mark
    → mark.dump ≡ dump
of_mark marks dump k mark all is = elim (slice_get_cases marks k).1 [
  | inl (found, within, at, get) ↦
      let same : found ≡ mark = cc in
      subst (λ (m : Situation). m.dump ≡ dump) (get ∙ same) (all k found within)
  | inr (past, none) ↦ absurd cc
]

-- a memory
abbrev memory_of : List Event → List (List Event) → Option (List Event) → Bool → Memory
memory_of log marks home names = record { log = log; marks = marks; home = home; names = names }

-- a reading that changes nothing
leaves : (w : Work) (text : List ℕ) (reading : Result Command LineFault) (reply : List ℕ)
    → ((line : List ℕ) → command_of line ≡ reading → last_word line ≡ text → IsTurn w.analyst (turn_of line w.memory w.memory.log w.memory reply))
    → IsRun w w text reading reply
leaves w text reading reply turn = record {
  same_analyst = refl;
  found = w.memory.log;
  later = λ law. record { more = []; begins = sym (append-nil w.memory.log); same_own = refl; lawful = law };
  is_turn = turn;
}

-- what is remembered under a log and marks
memory_is : (log : List Event) (marks : List Situation) (names : Bool) (m : Memory) → log ≡ m.log → logs_of marks ≡ m.marks → names ≡ m.names
    → memory_at log marks m.home names ≡ m
memory_is log marks names m p q r =
    ap (λ (l : List Event). memory_of l (logs_of marks) m.home names) p ∙ ap (λ (ks : List (List Event)). memory_of m.log ks m.home names) q
    ∙ ap (memory_of m.log m.marks m.home) r

-- a query is answered
pub query_run : (w : Work) (state : Solution) (marks : List Situation) (showing : Showing) (text : List ℕ) (query : Query) (reply : List ℕ)
    → state.dump ≡ w.analyst.dump → state.log ≡ w.front → w.front ≡ w.memory.log
    → logs_of marks ≡ w.memory.marks → showing.names ≡ w.memory.names → IsQueryReply state marks showing text query reply
    → IsRun w w text (Ok (commands.Ask showing.most query)) reply
query_run w state marks showing text query reply dump log front logs names h =
    leaves w text (Ok (commands.Ask showing.most query)) reply (λ line spells last.
    let c : Result Command LineFault = Ok (commands.Ask showing.most query) in
    let m : memory_at state.log marks w.memory.home showing.names ≡ w.memory = memory_is state.log marks showing.names w.memory (log ∙ front) logs names in
    let r : RepliesTo w.analyst.dump w.memory text c reply = subst (λ d. RepliesTo d w.memory text c reply) dump
    (subst (λ x. RepliesTo state.dump x text c reply) m (h w.memory.home)) in
    answered (subst (λ word. RepliesTo w.analyst.dump w.memory word (command_of line) reply) (sym last)
    (subst (λ x. RepliesTo w.analyst.dump w.memory text x reply) (sym spells) r)) refl refl)

-- a query isn't run
pub query_unserved : (w : Work) (most : Option ℕ) (text : List ℕ) (query : Query) (reply : List ℕ) → IsUnserved reply
    → IsRun w w text (Ok (commands.Ask most query)) reply
query_unserved w most text query reply h =
    leaves w text (Ok (commands.Ask most query)) reply (λ line spells last. unserved (ap refreshes spells) h refl refl)
