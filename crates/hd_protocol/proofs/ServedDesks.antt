-- Lemmas on a desk that is served, and on the only desk of a board.
use Rattle.std.proofs.Common.{◌≡◌, ◌∙◌, ℕ, List, [], ◌∷◌, true, Option, Result, Ok, Err, refl, sym, ap, subst, arith}
use Rattle.std.specs.Prelude.{◌==◌, Bool}
use Rattle.std.specs.List.{Contains}
use Rattle.std.proofs.KnownBytes.{Keeps-refl}
use Rattle.std.proofs.lemmas.List.Elements.{All-weaker, recursion_from_All}
use Rattle.hd_terms.specs.declared.Event.{Event}
use Rattle.hd_terms.specs.Dump.{Dump}
use Rattle.hd_lines.specs.Memory.{Memory, beginning, board_log}
use Rattle.hd_terms.specs.Schedule.{Board, Closes, numbers_from}
use Rattle.hd_lines.specs.Sessions.{Analyst, lone_analyst, memory_after}
use Rattle.hd_board.specs.Opening.{opened_board, opened_desk}
use Rattle.hd_board.specs.Replicas.{Replica}
use Rattle.hd_board.proofs.Numbers.{number_within}
use Rattle.hd_protocol.specs.declared.serving.ServeFault.{ServeFault}
use Rattle.hd_protocol.specs.declared.serving.ServeFault.TheVariants as faults
use Rattle.hd_protocol.specs.Serving.{Serves, ServesAlone}
use Rattle.hd_protocol.specs.Steps.{RunsInput}
use Rattle.hd_analyst.specs.Work.{Work, work_begun}
use Rattle.hd_protocol.proofs.Alone.{OnlyBy, only_front, alone}

-- memory ran out before anything was read
pub unserved_desk : (board : Board) (names : Bool) (desk : Replica) (input before : Option (List ℕ)) (result : Result (Unit {0}) ServeFault)
    → result ≡ Err faults.OutOfMemory → Serves board names desk desk input input before before result
unserved_desk board names desk input before result is =
    subst (Serves board names desk desk input input before before) (sym is) (record {
      last = beginning names desk.seen desk.front;
      served = (refl, Keeps-refl input, Keeps-refl before);
      same_who = refl;
      same_dump = refl;
      seen_is = refl;
    })

-- lines were served, and the desk is left that was worked at
pub served_desk : (board : Board) (names : Bool) (desk : Replica) (begun new : Work) (left : Replica) (input rest before after : Option (List ℕ))
    (result : Result (Unit {0}) ServeFault) → begun ≡ work_begun board names desk
    → RunsInput begun new input rest before after result → left.who ≡ new.analyst.who → left.dump ≡ new.analyst.dump → left.seen ≡ board_log new.memory
    → Serves board names desk left input rest before after result
served_desk board names desk begun new left input rest before after result is runs who dump seen =
    let ran : RunsInput (work_begun board names desk) new input rest before after result =
    subst (λ (w : Work). RunsInput w new input rest before after result) is runs in
    record {
      last = new.memory;
      served = ran.serves;
      same_who = who ∙ ap (λ (a : Analyst). a.who) ran.same_analyst;
      same_dump = dump ∙ ap (λ (a : Analyst). a.dump) ran.same_analyst;
      seen_is = seen;
    }

-- a number of a board of one desk is 0
only_number : (n : ℕ) → Contains (numbers_from 0 1) n → (n == 0) ≡ true
only_number n found =
    let within = number_within 0 1 n found in
    let is : n ≡ 0 = omega (arith, within.1) in
    ap (λ (k : ℕ). k == 0) is

-- all events of a board of one desk are that desk's, where it can be closed
only_desk : (dump : Dump) (desk : Replica) (log : List Event) → Closes (opened_board dump 1) log ((desk.who, desk.seen) ∷ []) → OnlyBy 0 desk.seen
only_desk dump desk log closes =
    let all : OnlyBy 0 log = recursion_from_All (λ (e : Event). (e.who == 0) ≡ true) log
    (All-weaker (λ (e : Event). Contains (numbers_from 0 1) e.who) (λ (e : Event). (e.who == 0) ≡ true)
    (λ (e : Event) found. only_number e.who found) log closes.members) in
    let begins = (closes.continues desk.who desk.seen (0, omega arith, refl)).begins in
    only_front 0 desk.seen begins.0 (subst (OnlyBy 0) begins.1 all)

-- the session of the only desk of a board was alone, where the board can be closed
pub served_alone : (dump : Dump) (names : Bool) (desk : Replica) (log : List Event) (input rest before after : Option (List ℕ)) (done : Unit {0})
    → Serves (opened_board dump 1) names (opened_desk dump 0) desk input rest before after (Ok done)
    → Closes (opened_board dump 1) log ((desk.who, desk.seen) ∷ []) → ServesAlone dump names input before after
served_alone dump names desk log input rest before after done s closes =
    let (bytes, told, (written, appended, (turns, served, last_is))) = s.served in
    let only : OnlyBy 0 (board_log (memory_after (beginning names [] []) turns)) = subst (λ (m : Memory). OnlyBy 0 (board_log m)) last_is
    (subst (OnlyBy 0) s.seen_is (only_desk dump desk log closes)) in (
      bytes,
      told,
      (
        written,
        appended,
        (
          turns,
          record {
            session = record { session = served.session; alone = alone (lone_analyst dump) (beginning names [] []) turns served.session.session only };
            written_is = served.written_is;
          },
        ),
      ),
    )

-- the same by what the board and the desk were
pub closed_alone : (board : Board) (names : Bool) (desk new : Replica) (log : List Event) (input rest before after : Option (List ℕ))
    (result : Result (Unit {0}) ServeFault) (done : Unit {0}) → board ≡ opened_board desk.dump 1
    → desk ≡ opened_desk desk.dump 0 → Serves board names desk new input rest before after result → result ≡ Ok done
    → Closes board log ((new.who, new.seen) ∷ []) → ServesAlone desk.dump names input before after
closed_alone board names desk new log input rest before after result done is_board is_desk s ended closes =
    served_alone desk.dump names new log input rest before after done
    (subst (λ (d : Replica). Serves (opened_board desk.dump 1) names d new input rest before after (Ok done)) is_desk
    (subst (λ (b : Board). Serves b names desk new input rest before after (Ok done)) is_board
    (subst (Serves board names desk new input rest before after) ended s)))
    (subst (λ (b : Board). Closes b log ((new.who, new.seen) ∷ [])) is_board closes)
