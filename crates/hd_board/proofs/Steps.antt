-- A desk's state on the way to what the desk has seen.
use Rattle.std.proofs.Common.{◌≡◌, ◌∙◌, ℕ, ◌+◌, ◌<◌, ◌≤◌, List, [], ◌∷◌, ◌++◌, length, take, drop, length-append, Option, None, Some, Result, slice_get, subst}
use Rattle.std.proofs.Common.{refl, sym, ap, arith}
use Rattle.std.specs.Result.{IsErr, OnErr}
use Rattle.std.proofs.lemmas.Result.{MatchResult-from_err}
use Rattle.std.proofs.lemmas.List.{length-take-le, take-append-drop}
use Rattle.std.proofs.Math.Seq.{take-append_seam}
use Rattle.hd_terms.specs.declared.Event.{Event}
use Rattle.hd_terms.specs.Dump.{Dump}
use Rattle.hd_terms.specs.declared.errors.LogFault.{LogFault}
use Rattle.hd_terms.specs.Log.{IsEvent, IsLawful, begins_with, log_fault}
use Rattle.hd_terms.specs.Appending.{with_event}
use Rattle.hd_terms.proofs.Beginnings.{begins_itself, begins_trans, begins_shorter, begins_next, begins_get, lawful_beginning}
use Rattle.hd_terms.proofs.LawfulLogs.{refuses, get-last}
use Rattle.hd_state.specs.declared.state.Done.{Done}
use Rattle.hd_state.specs.Done.{IsDone}
use Rattle.hd_state.specs.Next.{IsNextLog}
use Rattle.hd_board.specs.Replicas.{Replica, IsAt, IsBehindAt}
use Rattle.hd_board.specs.Stepping.{StepsOnce, ComesTo}

-- a log that has an event after a beginning of it
no_fault : (front : List Event) (e : Event) (fault : Option LogFault) → log_fault front e ≡ fault → IsLawful (with_event front e) → fault ≡ None
no_fault front e None is law = refl
no_fault front e (Some f) is law = absurd (refuses front e f is law)

pub takes_next : (log front : List Event) (e : Event) → IsLawful log → begins_with log front → IsEvent log (length front) e → log_fault front e ≡ None
takes_next log front e law begins next =
    no_fault front e (log_fault front e) refl (lawful_beginning log (with_event front e) (begins_next log front e begins next) law)

-- the log of a state with the next event of what was seen, where that is all that was seen
all-next : (log front more : List Event) → IsLawful log → log ≡ front ++ more → length more ≡ 1 → IsNextLog front log
all-next log front [] law is one = absurd (omega (arith, one))
all-next log front (e ∷ []) law is one = record { event = e; takes = no_fault front e (log_fault front e) refl (subst IsLawful is law); is = is }
all-next log front (e ∷ x ∷ more) law is one = absurd (omega (arith, one))

pub next_all : (log front : List Event) → IsLawful log → begins_with log front → length log ≡ length front + 1 → IsNextLog front log
next_all log front law begins one = all-next log front begins.0 law begins.1 (omega (arith, one, ap length begins.1, length-append front begins.0))

-- the desk's state comes to that log
pub steps_to : (old new : Replica) (next : List Event) (done : Done) (one : IsNextLog old.front next)
    → begins_with old.seen next → IsAt old new old.seen next → IsDone old.dump old.front next done → StepsOnce old new done
steps_to old new next done one within at is = record {
  event = one.event;
  next =
      begins_get old.seen next (length old.front) one.event within
      (ap (λ (es : List Event). slice_get es (length old.front)) one.is ∙ get-last old.front one.event);
  at = record { who = at.who; dump = at.dump; seen = at.seen; front = at.front ∙ one.is };
  done_is = subst (λ (f : List Event). IsDone old.dump old.front f done) one.is is;
}

-- beginnings of a log
pub begins_take : (log : List Event) (n : ℕ) → begins_with log (take n log)
begins_take log n = (drop n log, sym (take-append-drop n log))

pub begins_event : (front : List Event) (e : Event) → begins_with (with_event front e) front
begins_event front e = (e ∷ [], refl)

-- a desk that stays as it is
pub is_at_itself : (d : Replica) → IsAt d d d.seen d.front
is_at_itself d = record { who = refl; dump = refl; seen = refl; front = refl }

-- the same but for what it has seen
abbrev pub seeing : Replica → List Event → Replica
seeing d log = record { who = d.who; dump = d.dump; seen = log; front = d.front }

pub sees_log : (old d : Replica) (log : List Event) → d ≡ old → IsAt old (seeing d log) log old.front
sees_log old d log is = record {
  who = ap (λ (r : Replica). r.who) is;
  dump = ap (λ (r : Replica). r.dump) is;
  seen = refl;
  front = ap (λ (r : Replica). r.front) is;
}

-- what an error leaves
pub on_err : {T E P : Type 0} (r : Result T E) → IsErr r → P → OnErr r P
on_err r e p = MatchResult-from_err r (λ _. Unit {0}) (λ _. _) e (λ _. p)

-- the first `count` events of what was seen are to be reached, and the state has come to some
pub record IsOnTheWay (old new : Replica) (count : ℕ) : Type 0 where
  pub at : IsAt old new old.seen new.front
  pub reached : begins_with new.front old.front
  pub most : length new.front ≤ count

pub sets_out : (old : Replica) (count : ℕ) → length old.front ≤ count → IsOnTheWay old old count
sets_out old count le = record { at = is_at_itself old; reached = begins_itself old.front; most = le }

pub goes_on : (old mid new : Replica) (count : ℕ) (done : Done) → IsOnTheWay old mid count → length mid.front < count → StepsOnce mid new done
    → IsOnTheWay old new count
goes_on old mid new count done way lt step =
    let longer : begins_with new.front mid.front = subst (λ (f : List Event). begins_with f mid.front) (sym step.at.front)
    (begins_event mid.front step.event) in
    let len : length new.front ≡ length mid.front + 1 = ap length step.at.front ∙ length-append mid.front (step.event ∷ []) in
    record {
      at = record { who = step.at.who ∙ way.at.who; dump = step.at.dump ∙ way.at.dump; seen = step.at.seen ∙ way.at.seen; front = refl };
      reached = begins_trans new.front mid.front old.front longer way.reached;
      most = omega (arith, len);
    }

-- a desk has seen a longer log, and its state has come to all of it but the last event
pub comes : (old seeing mid new : Replica) (log : List Event) (last : ℕ) (done : Done) → IsAt old seeing log old.front
    → IsAt seeing mid seeing.seen (take last seeing.seen) → StepsOnce mid new done → last + 1 ≡ length log → (before : List Event) (event : Event)
    → log ≡ with_event before event → ComesTo old new before event done
comes old seeing mid new log last done sees at step len before event is =
    let count : last ≡ length before = omega (arith, len, ap length is, length-append before (event ∷ [])) in
    let seen : mid.seen ≡ with_event before event = at.seen ∙ (sees.seen ∙ is) in
    let front : mid.front ≡ before = at.front
    ∙ (ap (take last) (sees.seen ∙ is) ∙ (ap (λ (k : ℕ). take k (with_event before event)) count ∙ take-append_seam before (event ∷ []))) in
    let next : Some event ≡ Some step.event = sym (get-last before event)
    ∙ (ap (slice_get (with_event before event)) (sym (ap length front))
    ∙ (ap (λ (s : List Event). slice_get s (length mid.front)) (sym seen) ∙ step.next)) in
    let same : step.event ≡ event = cc in
    let dump : mid.dump ≡ old.dump = at.dump ∙ sees.dump in
    let last_is : with_event mid.front step.event ≡ with_event before event = ap (λ (f : List Event). with_event f step.event) front
    ∙ ap (with_event before) same in
    record {
      at = record { who = step.at.who ∙ (at.who ∙ sees.who); dump = step.at.dump ∙ dump; seen = step.at.seen ∙ seen; front = step.at.front ∙ last_is };
      done_is =
          let by_dump = subst (λ (d : Dump). IsDone d mid.front (with_event mid.front step.event) done) dump step.done_is in
          let by_last = subst (λ (f : List Event). IsDone old.dump mid.front f done) last_is by_dump in
          subst (λ (f : List Event). IsDone old.dump f (with_event before event) done) front by_last;
    }

-- it hasn't come so far
pub stays_behind : (old seeing new : Replica) (log : List Event) → IsAt old seeing log old.front → IsBehindAt seeing new seeing.seen seeing.front
    → IsBehindAt old new log old.front
stays_behind old seeing new log sees behind = record {
  who = behind.who ∙ sees.who;
  dump = behind.dump ∙ sees.dump;
  seen = behind.seen ∙ sees.seen;
  front = subst (begins_with new.front) sees.front behind.front;
  within = subst (λ (s : List Event). begins_with s new.front) sees.seen behind.within;
  behind = subst (λ (s : List Event). length new.front < length s) sees.seen behind.behind;
}

-- or only so far
pub one_behind : (old seeing mid new : Replica) (log : List Event) (last : ℕ) → IsAt old seeing log old.front → begins_with log old.front
    → IsAt seeing mid seeing.seen (take last seeing.seen) → IsAt mid new mid.seen mid.front → length old.front < length log → last + 1 ≡ length log
    → IsBehindAt old new log old.front
one_behind old seeing mid new log last sees begins at stays longer len =
    let front : new.front ≡ take last log = stays.front ∙ (at.front ∙ ap (take last) sees.seen) in
    let le : last ≤ length log = omega (arith, len) in
    let count : length (take last log) ≡ last = length-take-le last log le in
    let least : length old.front ≤ length (take last log) = omega (arith, count, longer, len) in
    record {
      who = stays.who ∙ (at.who ∙ sees.who);
      dump = stays.dump ∙ (at.dump ∙ sees.dump);
      seen = stays.seen ∙ (at.seen ∙ sees.seen);
      front = subst (λ (f : List Event). begins_with f old.front) (sym front)
          (begins_shorter log (take last log) old.front (begins_take log last) begins least);
      within = subst (begins_with log) (sym front) (begins_take log last);
      behind = subst (λ (f : List Event). length f < length log) (sym front) (omega (arith, count, len));
    }
