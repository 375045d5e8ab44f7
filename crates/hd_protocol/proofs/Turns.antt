-- Lemmas on lines that were answered, turn by turn.
use Rattle.std.proofs.Common.{◌≡◌, ◌∙◌, ℕ, List, [], ◌∷◌, ◌++◌, refl, sym, ap, subst, append-nil}
use Rattle.std.specs.List.{AllByRecursion}
use Rattle.std.proofs.lemmas.List.{map-append}
use Rattle.std.proofs.lemmas.List.Concat.{flat_map-append}
use Rattle.hd_lines.specs.Lines.{command_of, last_word}
use Rattle.hd_lines.specs.Memory.{Memory}
use Rattle.hd_lines.specs.Sessions.{Analyst, Turn, IsLater, IsRefreshed, IsTurn, IsSession, IsSessionOver, memory_after, replies}
use Rattle.hd_analyst.specs.Answering.{IsAnswered, turn_of}
use Rattle.hd_protocol.specs.Steps.{IsAnsweredSoFar}
use Rattle.hd_analyst.specs.Work.{Work}

-- one more turn
session_push : (a : Analyst) (first : Memory) (ts : List Turn) (t : Turn) → IsSession a first ts → IsRefreshed a.who (memory_after first ts) t.before
    → IsLater a.who t.before.log t.found → IsTurn a t
    → IsSession a first (ts ++ t ∷ [])
session_push a first [] t h refreshed later turn = (refreshed, later, turn, tt)
session_push a first (u ∷ ts) t h refreshed later turn = (h.0, h.1, h.2, session_push a u.after ts t h.3 refreshed later turn)

memory_after-push : (first : Memory) (ts : List Turn) (t : Turn) → memory_after first (ts ++ t ∷ []) ≡ t.after
memory_after-push first [] t = refl
memory_after-push first (u ∷ ts) t = memory_after-push u.after ts t

-- nothing was answered
pub answered_none : (a : Analyst) (first : Memory) → IsAnsweredSoFar a first [] [] first
answered_none a first = record { turns = []; session = record { session = tt; over = refl }; written_is = refl; memory_is = refl }

pub all_push : {X : Type 0} (P : X → Type 0) (xs : List X) (x : X) → AllByRecursion P xs → P x → AllByRecursion P (xs ++ x ∷ [])
all_push P [] x h p = (p, tt)
all_push P (y ∷ ys) x h p = (h.0, all_push P ys x h.1 p)

-- the turn of one more line
module _ (a : Analyst) (first : Memory) (lines : List (List ℕ)) (written : List ℕ) (old new : Work) (line reply : List ℕ) (is : old.analyst ≡ a)
    (so_far : IsAnsweredSoFar a first lines written old.memory) (h : IsAnswered old new (last_word line) (command_of line) reply) where
  abbrev pub last_turn : Turn
  last_turn = turn_of line h.between.memory h.run.found new.memory reply

  same : h.between.analyst ≡ a
  same = h.refreshes.same_analyst ∙ is

  refreshed : IsRefreshed a.who old.memory h.between.memory
  refreshed = subst (λ (x : Analyst). IsRefreshed x.who old.memory h.between.memory) is h.refreshes.refreshed

  later : IsLater a.who h.between.memory.log h.run.found
  later = subst (λ (x : Analyst). IsLater x.who h.between.memory.log h.run.found) same (h.run.later refreshed.later.lawful)

  -- the turns so far with that turn
  pub session_with : IsSessionOver a first (lines ++ line ∷ []) (so_far.turns ++ last_turn ∷ [])
  session_with = record {
    session = session_push a first so_far.turns last_turn so_far.session.session
        (subst (λ (m : Memory). IsRefreshed a.who m h.between.memory) so_far.memory_is refreshed) later
        (subst (λ (x : Analyst). IsTurn x last_turn) same (h.run.is_turn line refl refl));
    over = map-append (λ (u : Turn). u.line) so_far.turns (last_turn ∷ []) ∙ ap (λ l. l ++ line ∷ []) so_far.session.over;
  }

  pub memory_with : new.memory ≡ memory_after first (so_far.turns ++ last_turn ∷ [])
  memory_with = sym (memory_after-push first so_far.turns last_turn)

  pub reply_with : replies (last_turn ∷ []) ≡ reply
  reply_with = append-nil reply

  pub answered_push : IsAnsweredSoFar a first (lines ++ line ∷ []) (written ++ reply) new.memory
  answered_push = record {
    turns = so_far.turns ++ last_turn ∷ [];
    session = session_with;
    written_is = ap (λ l. l ++ reply) so_far.written_is ∙ ap (λ l. replies so_far.turns ++ l) (sym (append-nil reply))
        ∙ sym (flat_map-append (λ (u : Turn). u.reply) so_far.turns (last_turn ∷ []));
    memory_is = memory_with;
  }
