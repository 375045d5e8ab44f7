-- Whether a slot is an edge that stands.
use Rattle.std.proofs.Common.{◌≡◌, ◌∙◌, ℕ, ◌≤◌, Bool, true, false, not, List, length, Option, Some, slice_get, sym, ap}
use Rattle.std.specs.Prelude.{◌&&◌, is_some}
use Rattle.std.specs.Option.{option_map_or}
use Rattle.std.proofs.lemmas.List.{get_or_past}
use Rattle.std.proofs.lemmas.Option.{slice_get_past}
use Rattle.hd_terms.specs.declared.Event.{Event}
use Rattle.hd_terms.specs.Dump.{SlotEntry, Object, Dump, no_object, object_at}
use Rattle.hd_terms.specs.Edges.{index_of}
use Rattle.hd_terms.specs.EditedDump.{edge_stands, is_standing_edge, is_untouched}
use Rattle.hd_view.proofs.PickLemmas.{not_not}

-- past the last object none stands
pub past_objects : (dump : Dump) (log : List Event) (o i : ℕ) → length dump.objects ≤ o → false ≡ edge_stands dump log o i
past_objects dump log o i past =
    let none : object_at dump o ≡ no_object = get_or_past dump.objects o no_object past in
    sym (ap (λ (x : Object). option_map_or (is_standing_edge dump log x) (slice_get x.slots i) false) none)

-- nor past the last slot
pub past_slots : (dump : Dump) (log : List Event) (o i : ℕ) → length (object_at dump o).slots ≤ i → false ≡ edge_stands dump log o i
past_slots dump log o i past =
    let x = object_at dump o in
    sym (ap (λ (s : Option SlotEntry). option_map_or (is_standing_edge dump log x) s false) (slice_get_past x.slots i past))

-- one whose ID is an object's stands where it isn't taken away
pub stands_by_slot : (dump : Dump) (log : List Event) (o i : ℕ) (s : SlotEntry) (target : Option ℕ) (removed : Bool)
    → slice_get (object_at dump o).slots i ≡ Some s
    → target ≡ index_of dump.objects s.id → is_some target ≡ true → removed ≡ not (is_untouched log (object_at dump o) s)
    → not removed ≡ edge_stands dump log o i
stands_by_slot dump log o i s target removed at is some taken =
    let x = object_at dump o in
    let found : is_some (index_of dump.objects s.id) ≡ true = ap is_some (sym is) ∙ some in
    ap not taken
    ∙ not_not (is_untouched log x s)
    ∙ sym (ap (λ (b : Bool). b && is_untouched log x s) found)
    ∙ sym (ap (λ (e : Option SlotEntry). option_map_or (is_standing_edge dump log x) e false) at)
