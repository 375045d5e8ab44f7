-- What is found of the desks and of the log as a board is closed.
use Rattle.std.proofs.Common.{◌≡◌, ◌∙◌, ℕ, ◌+◌, ◌-◌, ◌<◌, ◌≤◌, inl, inr, List, [], ◌∷◌, length, length-drop, map, take, drop, get_or, subst, ap, sym, arith}
use Rattle.std.specs.List.{All, Contains}
use Rattle.std.proofs.lemmas.Bool.{cases_lt}
use Rattle.std.proofs.lemmas.List.{get_or-map, get_or-drop, length-map}
use Rattle.std.proofs.lemmas.List.Elements.{All-more, All-contains, Contains-get_or}
use Rattle.std.proofs.lemmas.Option.{get_or_from_slice_get, slice_get-get_or}
use Rattle.hd_terms.specs.declared.Event.{Event}
use Rattle.hd_terms.specs.Log.{IsEvent}
use Rattle.hd_terms.specs.Desks.{Continues, Differs, IsForeign}
use Rattle.hd_terms.specs.Schedule.{Board, numbers_from, AreMembers, Closes}
use Rattle.hd_board.specs.Appends.{IsFound}
use Rattle.hd_board.specs.Closing.{numbered, HasDesk, IsMismatch, IsMissingDesk}
use Rattle.hd_board.specs.Replicas.{Replica}
use Rattle.hd_board.proofs.Numbers.{number_within}

-- a desk finds the log
abbrev pub finds : List ℕ → List Event → Replica → Type 0
finds numbers log d = IsFound numbers d.who d.seen log

-- an event is of the board's
abbrev pub is_ours : List ℕ → Event → Type 0
is_ours numbers e = Contains numbers e.who

-- one more desk finds the log
pub one_more_finds : (numbers : List ℕ) (log : List Event) (desks : List Replica) (i : ℕ) (d : Replica) (who : ℕ) (seen : List Event) → i < length desks
    → d ≡ get_or desks i d → who ≡ d.who → seen ≡ d.seen → All (finds numbers log) (take i desks) → IsFound numbers who seen log
    → All (finds numbers log) (take (i + 1) desks)
one_more_finds numbers log desks i d who seen lt at who_is seen_is so_far found =
    let by_who = subst (λ (w : ℕ). IsFound numbers w seen log) who_is found in
    let by_seen = subst (λ (s : List Event). IsFound numbers d.who s log) seen_is by_who in
    All-more (finds numbers log) desks i d lt so_far (subst (finds numbers log) at by_seen)

-- an event from a place on is of the board's
pub ours_there : (numbers : List ℕ) (log : List Event) (from i : ℕ) (e : Event) → from ≤ i → i < length log → IsEvent log i e
    → All (is_ours numbers) (drop from log) → is_ours numbers e
ours_there numbers log from i e le lt at all =
    let k : ℕ = i - from in
    let place : from + k ≡ i = omega arith in
    let is : get_or (drop from log) k e ≡ e = get_or-drop from log k e ∙ (ap (λ (n : ℕ). get_or log n e) place ∙ get_or_from_slice_get log i e e at) in
    subst (is_ours numbers) is (all k e (omega (arith, length-drop from log)))

-- all events from a place on are
pub all_ours : (numbers : List ℕ) (log : List Event) (from i : ℕ) → length log ≤ i
    → ((k : ℕ) (e : Event) → from ≤ k → k < i → IsEvent log k e → is_ours numbers e) → All (is_ours numbers) (drop from log)
all_ours numbers log from i le so_far k d lt =
    let n : ℕ = from + k in
    let within : n < length log = omega (arith, length-drop from log) in
    subst (is_ours numbers) (sym (get_or-drop from log k d)) (so_far n (get_or log n d) (omega arith) (omega arith) (slice_get-get_or log n d within))

-- one more number is a desk's
pub one_more_has : (desks : List Replica) (first i : ℕ) → ((k : ℕ) → k < i → HasDesk desks (first + k)) → HasDesk desks (first + i) → (k : ℕ) → k < i + 1
    → HasDesk desks (first + k)
one_more_has desks first i so_far here k lt = elim (cases_lt k i) [
  | inl below ↦ so_far k below
  | inr above ↦ let same : first + i ≡ first + k = omega arith in subst (HasDesk desks) same here
]

-- each number is
pub all_have : (desks : List Replica) (first count i : ℕ) → count ≤ i → ((k : ℕ) → k < i → HasDesk desks (first + k)) → (who : ℕ)
    → Contains (numbers_from first count) who → HasDesk desks who
all_have desks first count i le so_far who member =
    let within = number_within first count who member in
    let same : first + (who - first) ≡ who = omega (arith, within.0) in
    subst (HasDesk desks) same (so_far (who - first) (omega (arith, within.0, within.1)))

-- what stands in a list, and in its images
in_map : {X Y : Type 0} (f : X → Y) (xs : List X) (x : X) → Contains xs x → Contains (map f xs) (f x)
in_map f xs x found = (found.0, omega (arith, found.1, length-map xs f), get_or-map f xs found.0 x (f x) found.1 ∙ ap f found.2)

of_map : {X Y : Type 0} (f : X → Y) (xs : List X) (y : Y) → Contains (map f xs) y → (x : X) × Contains xs x × (f x ≡ y)
of_map f [] y found = absurd (omega (arith, found.1))
of_map f (x ∷ xs) y found =
    let k : ℕ = found.0 in
    let lt : k < length (x ∷ xs) = omega (arith, found.1, length-map (x ∷ xs) f) in
    (get_or (x ∷ xs) k x, Contains-get_or (x ∷ xs) k x lt, sym (get_or-map f (x ∷ xs) k x y lt) ∙ found.2)

-- a desk by its number and what it has seen
by_number : (desks : List Replica) (who : ℕ) (seen : List Event) → Contains (map numbered desks) (who, seen) → (d : Replica) × Contains desks d
    × (numbered d ≡ (who, seen))
by_number desks who seen found = let pair : ℕ × List Event = (who, seen) in of_map numbered desks pair found

found_by_number : (numbers : List ℕ) (log : List Event) (desks : List Replica) → All (finds numbers log) desks → (who : ℕ) (seen : List Event)
    → Contains (map numbered desks) (who, seen) → IsFound numbers who seen log
found_by_number numbers log desks all who seen found =
    let d = by_number desks who seen found in
    subst (λ (p : ℕ × List Event). IsFound numbers p.0 p.1 log) d.2 (All-contains (finds numbers log) desks d.0 all d.1)

-- a log that is found isn't foreign
never_differs : (who : ℕ) (seen log : List Event) → Continues who seen log → Differs who seen log → ⊥
never_differs who seen log c (inl wrong) = wrong c.begins
never_differs who seen log c (inr wrong) = wrong c.same_own

pub never_foreign : (numbers : List ℕ) (who : ℕ) (seen log : List Event) → IsFound numbers who seen log → IsForeign numbers who seen log → ⊥
never_foreign numbers who seen log f (inl wrong) = wrong f.member
never_foreign numbers who seen log f (inr differs) = never_differs who seen log f.continues differs

-- a desk doesn't find the log
pub desk_differs : (board : Board) (log : List Event) (desks : List Replica) → (d : Replica) × Contains desks d × IsForeign board.numbers d.who d.seen log
    → IsMismatch board log (map numbered desks)
desk_differs board log desks (d, found, foreign) = inl (d.who, d.seen, in_map numbered desks d found, foreign)

-- all desks find the log, whose events after the base are the board's
pub no_mismatch : (board : Board) (log : List Event) (desks : List Replica) → All (finds board.numbers log) desks → AreMembers board log
    → IsMismatch board log (map numbered desks) → ⊥
no_mismatch board log desks all ours (inl (who, seen, found, foreign)) =
    never_foreign board.numbers who seen log (found_by_number board.numbers log desks all who seen found) foreign
no_mismatch board log desks all ours (inr wrong) = wrong ours

-- a number that is no desk's
pub no_desk : (board : Board) (desks : List Replica) → (who : ℕ) × Contains board.numbers who × (HasDesk desks who → ⊥)
    → IsMissingDesk board (map numbered desks)
no_desk board desks (who, member, never) = (
  who,
  member,
  λ seen found.
      let d = by_number desks who seen found in
      never (d.0, d.1, ap (λ (p : ℕ × List Event). p.0) d.2),
)

pub closes : (board : Board) (log : List Event) (desks : List Replica) → All (finds board.numbers log) desks → AreMembers board log
    → ((who : ℕ) → Contains board.numbers who → HasDesk desks who) → Closes board log (map numbered desks)
closes board log desks all ours have = record {
  complete = λ a member.
      let has = have a member in
      let desk : Replica = has.0 in
      (desk.seen, subst (λ (n : ℕ). Contains (map numbered desks) (n, desk.seen)) has.2 (in_map numbered desks desk has.1));
  ours = λ a seen found. (found_by_number board.numbers log desks all a seen found).member;
  continues = λ a seen found. (found_by_number board.numbers log desks all a seen found).continues;
  members = ours;
}
