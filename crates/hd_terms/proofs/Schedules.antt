-- Each step keeps what holds of the desks.
use Rattle.std.proofs.Common.{◌≡◌, ◌∙◌, ℕ, zero, suc, ◌<◌, ◌==◌, inl, inr, Bool, true, false, if◌then◌else◌, List, [], ◌∷◌, ◌++◌, length, map, Option, Some}
use Rattle.std.proofs.Common.{None, subst, refl, ap, sym, arith, append_assoc}
use Rattle.std.specs.Option.{option_and_then, option_or}
use Rattle.std.specs.List.{All, Contains, slice_index_or}
use Rattle.std.proofs.lemmas.Bool.{eqb-true, eqb-false, ne_eqb, cases_lt}
use Rattle.std.proofs.lemmas.List.{append-nil, get_or-map, length-map}
use Rattle.std.proofs.lemmas.List.Elements.{All-nil, All-append}
use Rattle.hd_terms.specs.declared.Event.{Event}
use Rattle.hd_terms.specs.declared.errors.LogFault.{LogFault}
use Rattle.hd_terms.specs.declared.errors.Refusal.{Refusal}
use Rattle.hd_terms.specs.Log.{IsLawful, begins_with, edit_of, log_fault, own}
use Rattle.hd_terms.specs.Appending.{append_refusal, by_log, root_refusal}
use Rattle.hd_terms.specs.Desks.{Continues, Differs, IsForeign, IsApart}
use Rattle.hd_terms.specs.Schedule.{Board, Desk, Desks, Step, append, look, learn, catch_up, start, with_desk, with_seen, with_log, Leads, Runs, Reaches, fork}
use Rattle.hd_terms.specs.Schedule.{IsOneHistory, Closes, all_desks}
use Rattle.hd_terms.proofs.LawfulLogs.{takes}
use Rattle.hd_terms.proofs.Beginnings.{begins_itself, begins_before, begins_trans, begins_shorter, begins_next, rest_after, lawful_beginning}
use Rattle.hd_terms.proofs.OwnEvents.{own-other, own-between}

-- what no refusal says of the log
not_by_log : (fault : Option LogFault) → by_log fault ≡ None → fault ≡ None
not_by_log None h = refl
not_by_log (Some f) h = absurd cc

neither : (a b : Option Refusal) → option_or a b ≡ None → b ≡ None
neither None b h = h
neither (Some r) b h = absurd cc

-- a log stays lawful with an event that isn't refused
pub lawful_append : (roots : ℕ) (log : List Event) (e : Event) → append_refusal roots log e ≡ None → IsLawful log → IsLawful (log ++ e ∷ [])
lawful_append roots log e none law =
    takes log e law (not_by_log (log_fault log e) (neither (option_and_then (root_refusal roots log) (edit_of e.what)) (by_log (log_fault log e)) none))

-- what holds of one desk
pub record DeskKept (log : List Event) (who : ℕ) (desk : Desk) : Type 0 where
  pub front : begins_with desk.seen desk.front
  pub seen : begins_with log desk.seen
  pub same_own : own who log ≡ own who desk.seen

-- what holds of all
pub record Kept (board : Board) (s : Desks) : Type 0 where
  pub base : begins_with s.log board.base
  pub members : All (λ (e : Event). Contains board.numbers e.who) base.0
  pub lawful : IsLawful board.base → IsLawful s.log
  pub desks : (a : ℕ) → DeskKept s.log a (s.desk a)

-- one desk, or the others
chosen : (log : List Event) (who a : ℕ) (desk other : Desk) (b : Bool) → (a == who) ≡ b → DeskKept log who desk → DeskKept log a other
    → DeskKept log a (if b then desk else other)
chosen log who a desk other true is k l = subst (λ (n : ℕ). DeskKept log n desk) (sym (eqb-true a who is)) k
chosen log who a desk other false is k l = l

with_desk_kept : (board : Board) (s : Desks) (who : ℕ) (desk : Desk) → Kept board s → DeskKept s.log who desk → Kept board (with_desk s who desk)
with_desk_kept board s who desk kept k = record {
  base = kept.base;
  members = kept.members;
  lawful = kept.lawful;
  desks = λ a. chosen s.log who a desk (s.desk a) (a == who) refl k (kept.desks a);
}

-- a desk that doesn't append
other_kept : (log : List Event) (e : Event) (a : ℕ) (desk : Desk) → (e.who == a) ≡ false → DeskKept log a desk → DeskKept (log ++ e ∷ []) a desk
other_kept log e a desk other k = record {
  front = k.front;
  seen = begins_trans (log ++ e ∷ []) log desk.seen (begins_before log e) k.seen;
  same_own = own-other a log e other ∙ k.same_own;
}

start_kept : (board : Board) → Kept board (start board)
start_kept board = record {
  base = ([], sym (append-nil board.base));
  members = All-nil (λ (e : Event). Contains board.numbers e.who);
  lawful = λ law. law;
  desks = λ a. record { front = begins_itself board.base; seen = begins_itself board.base; same_own = refl };
}

-- each desk after an event was appended: the desk of its analyst, or another
after_append : (log : List Event) (e : Event) (a : ℕ) (desk : Desk) (b : Bool) → (a == e.who) ≡ b
    → DeskKept log e.who (record { seen = log; front = desk.front }) → (other : Desk) → DeskKept log a other
    → DeskKept (log ++ e ∷ []) a (if b then record { seen = log ++ e ∷ []; front = desk.front } else other)
after_append log e a desk true is k other l = record {
  front = begins_trans (log ++ e ∷ []) log desk.front (begins_before log e) k.front;
  seen = begins_itself (log ++ e ∷ []);
  same_own = refl;
}
after_append log e a desk false is k other l = other_kept log e a other (ne_eqb e.who a (λ same. eqb-false a e.who is (sym same))) l

-- a desk that has seen the whole log
all_seen : (log : List Event) (who : ℕ) (desk : Desk) → DeskKept log who desk → DeskKept log who (record { seen = log; front = desk.front })
all_seen log who desk k = record { front = begins_trans log desk.seen desk.front k.seen k.front; seen = begins_itself log; same_own = refl }

appended_kept : (board : Board) (s : Desks) (e : Event) → Kept board s → Contains board.numbers e.who → append_refusal board.roots s.log e ≡ None
    → Kept board (with_seen (with_log s (s.log ++ e ∷ [])) e.who (s.log ++ e ∷ []))
appended_kept board s e kept member none = record {
  base = (kept.base.0 ++ e ∷ [], ap (λ w. w ++ e ∷ []) kept.base.1 ∙ append_assoc board.base kept.base.0 (e ∷ []));
  members = All-append (λ (x : Event). Contains board.numbers x.who) kept.base.0 (e ∷ []) kept.members (λ k d lt. one k d lt);
  lawful = λ law. lawful_append board.roots s.log e none (kept.lawful law);
  desks = λ a. after_append s.log e a (s.desk e.who) (a == e.who) refl (all_seen s.log e.who (s.desk e.who) (kept.desks e.who)) (s.desk a) (kept.desks a);
}
  where
    one : (k : ℕ) (d : Event) → k < 1 → Contains board.numbers (slice_index_or (e ∷ []) k d).who
    one zero d lt = member
    one (suc k) d lt = absurd (omega arith)

-- each step keeps it
step_kept : (board : Board) (s : Desks) (step : Step) (t : Desks) → Kept board s → Leads board s step t → Kept board t
step_kept board s (append e) t kept leads = subst (Kept board) (sym leads.2) (appended_kept board s e kept leads.0 leads.1)
step_kept board s (look who) t kept leads =
    subst (Kept board) (sym leads.1)
    (with_desk_kept board s who (record { seen = s.log; front = (s.desk who).front }) kept (all_seen s.log who (s.desk who) (kept.desks who)))
step_kept board s (learn who other) t kept leads =
    let mine = kept.desks who in
    let theirs = kept.desks other in
    let longer : begins_with (s.desk other).seen (s.desk who).seen = begins_shorter s.log (s.desk other).seen (s.desk who).seen theirs.seen mine.seen
    (omega (arith, leads.2)) in
    subst (Kept board) (sym leads.3) (with_desk_kept board s who (record { seen = (s.desk other).seen; front = (s.desk who).front }) kept (record {
      front = begins_trans (s.desk other).seen (s.desk who).seen (s.desk who).front longer mine.front;
      seen = theirs.seen;
      same_own = mine.same_own ∙ sym (own-between who s.log (s.desk other).seen (s.desk who).seen theirs.seen longer mine.same_own);
    }))
step_kept board s (catch_up who) t kept leads =
    let mine = kept.desks who in
    let e : Event = leads.1 in
    subst (Kept board) (sym leads.3) (with_desk_kept board s who (record { seen = (s.desk who).seen; front = (s.desk who).front ++ e ∷ [] }) kept (record {
      front = begins_next (s.desk who).seen (s.desk who).front e mine.front leads.2;
      seen = mine.seen;
      same_own = mine.same_own;
    }))

-- so does each schedule
runs_kept : (board : Board) (s : Desks) (steps : List Step) (t : Desks) → Kept board s → Runs board s steps t → Kept board t
runs_kept board s [] t kept runs = subst (Kept board) (sym runs) kept
runs_kept board s (step ∷ steps) t kept runs = runs_kept board runs.0 steps t (step_kept board s step runs.0 kept runs.1) runs.2

pub kept_after : (board : Board) (s : Desks) → Reaches board s → Kept board s
kept_after board s r = runs_kept board (start board) r.steps s (start_kept board) r.runs

pub one_history : (board : Board) (s : Desks) → Kept board s → IsOneHistory board s
one_history board s kept = record {
  fronts = λ a _. (kept.desks a).front;
  seen = λ a _. record { begins = (kept.desks a).seen; same_own = (kept.desks a).same_own };
  base = kept.base;
  members = subst (All (λ (e : Event). Contains board.numbers e.who)) (sym (rest_after s.log board.base kept.base.0 kept.base.1)) kept.members;
  lawful = kept.lawful;
}

-- a board can begin at any desk's front
pub lawful_fork : (board : Board) (s : Desks) → Kept board s → IsLawful board.base → (a : ℕ) → IsLawful (fork board s a).base
lawful_fork board s kept law a =
    let desk = s.desk a in
    lawful_beginning s.log desk.front (begins_trans s.log desk.seen desk.front (kept.desks a).seen (kept.desks a).front) (kept.lawful law)

-- what continues doesn't differ
never_differs : (who : ℕ) (seen log : List Event) → Continues who seen log → Differs who seen log → ⊥
never_differs who seen log c (inl wrong) = wrong c.begins
never_differs who seen log c (inr wrong) = wrong c.same_own

never-foreign : (numbers : List ℕ) (who : ℕ) (seen log : List Event) → Contains numbers who → Continues who seen log → IsForeign numbers who seen log → ⊥
never-foreign numbers who seen log member c (inl wrong) = wrong member
never-foreign numbers who seen log member c (inr differs) = never_differs who seen log c differs

-- no desk of the board finds the log foreign
pub never_foreign : (board : Board) (s : Desks) → Kept board s → (a : ℕ) → Contains board.numbers a → IsForeign board.numbers a (s.desk a).seen s.log → ⊥
never_foreign board s kept a member = never-foreign board.numbers a (s.desk a).seen s.log member ((one_history board s kept).seen a member)

-- of what begins the log, the longer continues the shorter
not_apart : (log told : List Event) (who : ℕ) (desk : Desk) → DeskKept log who desk → begins_with log told → Differs who desk.seen told
    → (begins_with desk.seen told → ⊥) → ⊥
not_apart log told who desk k begins differs never = elim (cases_lt (length told) (length desk.seen)) [
  | inl lt ↦ never (begins_shorter log desk.seen told k.seen begins (omega arith))
  | inr le ↦
      let longer : begins_with told desk.seen = begins_shorter log told desk.seen begins k.seen le in
      never_differs who desk.seen told (record { begins = longer; same_own = own-between who log told desk.seen begins longer k.same_own }) differs
]

pub never_apart : (board : Board) (s : Desks) → Kept board s → (a : ℕ) (told : List Event) → begins_with s.log told → IsApart a (s.desk a).seen told → ⊥
never_apart board s kept a told begins apart = not_apart s.log told a (s.desk a) (kept.desks a) begins apart.0 apart.1

-- a number with what it gives
abbrev pair_of : (ℕ → List Event) → ℕ → ℕ × List Event
pair_of f n = (n, f n)

-- numbers, each with what it gives
abbrev pairs : (ℕ → List Event) → List ℕ → List (ℕ × List Event)
pairs f numbers = map (pair_of f) numbers

pair_at : (f : ℕ → List Event) (numbers : List ℕ) (k a : ℕ) (d : ℕ × List Event) → k < length numbers
    → slice_index_or (pairs f numbers) k d ≡ (slice_index_or numbers k a, f (slice_index_or numbers k a))
pair_at f numbers k a d lt = get_or-map (pair_of f) numbers k a d lt

in_pairs : (f : ℕ → List Event) (numbers : List ℕ) (a : ℕ) (seen : List Event) → Contains (pairs f numbers) (a, seen) → Contains numbers a × (seen ≡ f a)
in_pairs f numbers a seen found =
    let pair : ℕ × List Event = (a, seen) in
    let k : ℕ = found.0 in
    let within : k < length numbers = omega (arith, found.1, length-map numbers (pair_of f)) in
    let is = sym (pair_at f numbers k a pair within) ∙ found.2 in
    let here : slice_index_or numbers k a ≡ a = ap (λ (p : ℕ × List Event). p.0) is in
    ((k, within, here), sym (ap (λ (p : ℕ × List Event). p.1) is) ∙ ap f here)

to_pairs : (f : ℕ → List Event) (numbers : List ℕ) (a : ℕ) → Contains numbers a → Contains (pairs f numbers) (a, f a)
to_pairs f numbers a found =
    let pair : ℕ × List Event = (a, f a) in
    (found.0, omega (arith, found.1, length-map numbers (pair_of f)), pair_at f numbers found.0 a pair found.1 ∙ ap (pair_of f) found.2)

pub closes : (board : Board) (s : Desks) → Kept board s → Closes board s.log (all_desks board s)
closes board s kept =
    let seen : ℕ → List Event = λ a. (s.desk a).seen in
    record {
      complete = λ a member. (seen a, to_pairs seen board.numbers a member);
      ours = λ a front found. (in_pairs seen board.numbers a front found).0;
      continues = λ a front found. subst (λ f. Continues a f s.log) (sym (in_pairs seen board.numbers a front found).1)
          (record { begins = (kept.desks a).seen; same_own = (kept.desks a).same_own });
      members = (one_history board s kept).members;
    }
