use Rattle.std.proofs.Common.{◌≡◌, ℕ, suc, ◌-◌, ◌<◌, ◌≤◌, List, length, Option, None, Some, refl, sym, ap, arith}
use Rattle.std.specs.Prelude.{IfSome}
use Rattle.std.specs.Option.{option_map}
use Rattle.std.proofs.lemmas.Bool.{lt-leb}
use Rattle.std.proofs.lemmas.Option.{slice_get_past}
use Rattle.hd_terms.specs.declared.Event.{Event}
use Rattle.hd_terms.specs.Paths.{Edge, RootEntry}
use Rattle.hd_terms.specs.Dump.{SlotEntry, Dump}
use Rattle.hd_strength.specs.declared.edited.StandingRead.{StandingRead}
use Rattle.hd_strength.specs.Rows.{edge_at, root_by_event, root_count, root_at}
use Rattle.hd_strength.proofs.RowLemmas.{edge_to, held_at, held_within}

-- an option that holds nothing is none
pub none_of : {X : Type 0} (o : Option X) → ((x : X) → o ≡ Some x → ⊥) → o ≡ None
none_of None h = refl
none_of (Some x) h = absurd (h x refl)

-- no root has a number past the last
pub no_root_past : (dump : Dump) (log : List Event) (r : ℕ) → root_count dump log ≤ r → None ≡ held_at dump log r
unfolding root_at
no_root_past dump log r past =
    let n : ℕ = r - length dump.roots in
    let none : root_at dump log r ≡ None = rw (lt-leb (suc r) (length dump.roots) (omega arith))
    (ap (root_by_event dump log n) (slice_get_past log n (omega arith))) in
    sym (ap (option_map (λ (x : RootEntry). x.target)) none)

-- the object that a root holds is one
pub held_within_option : (dump : Dump) (log : List Event) (r : ℕ) (held : Option ℕ) → held ≡ held_at dump log r → IfSome held (λ o. o < length dump.objects)
held_within_option dump log r None is = tt
held_within_option dump log r (Some o) is = held_within dump log r o is

-- an edge as it is read
abbrev pub read_of : Edge → StandingRead
read_of e = record { kind = e.kind; target = e.target }

-- what is read at an index of an object's slots
abbrev pub read_at : Dump → List Event → ℕ → ℕ → Option StandingRead
read_at dump log o i = option_map read_of (edge_at dump log o i)

pub read_none : (dump : Dump) (log : List Event) (o i : ℕ) → ((e : Edge) → edge_at dump log o i ≡ Some e → ⊥) → None ≡ read_at dump log o i
read_none dump log o i none = sym (ap (option_map read_of) (none_of (edge_at dump log o i) none))

pub read_some : (dump : Dump) (log : List Event) (o i : ℕ) (s : SlotEntry) (t : ℕ) → edge_at dump log o i ≡ Some (edge_to o s t)
    → Some (record { kind = s.kind; target = t }) ≡ read_at dump log o i
read_some dump log o i s t is = sym (ap (option_map read_of) is)
