-- The slots of an object, shown one after another.
use Rattle.std.proofs.Common.{◌≡◌, ◌∙◌, ℕ, ◌+◌, Bool, true, false, not, cond, eqb, List, [], ◌∷◌, ◌++◌, map, take, Some, refl, ap}
use Rattle.std.specs.List.{slice_get}
use Rattle.std.proofs.lemmas.List.{map_more}
use Rattle.std.proofs.lemmas.Option.{get_or_from_slice_get, slice_get_within}
use Rattle.hd_terms.specs.declared.Event.{Event}
use Rattle.hd_terms.specs.declared.SlotRow.{SlotRow}
use Rattle.hd_terms.specs.declared.SlotMode.TheVariants as modes
use Rattle.hd_terms.specs.Dump.{SlotEntry, Object, Dump}
use Rattle.hd_terms.specs.Edges.{index_of}
use Rattle.hd_terms.specs.EditedDump.{is_untouched}
use Rattle.hd_terms.specs.SlotRows.{slot_row, mode_of}
use Rattle.hd_graph.specs.declared.graph.SlotRead.{SlotRead}
use Rattle.hd_queries.specs.Shown.{shown}

pub not_not : (b : Bool) → not (not b) ≡ b
not_not true = refl
not_not false = refl

-- what is read of a slot is shown as the slot is under the log
pub shown-slot : (dump : Dump) (log : List Event) (x : Object) (read : SlotRead) (removed : Bool)
    → read.target ≡ index_of dump.objects read.id → removed ≡ not (is_untouched log x (record { slot = read.slot; kind = read.kind; id = read.id }))
    → shown read removed ≡ slot_row dump log x (record { slot = read.slot; kind = read.kind; id = read.id })
shown-slot dump log x read removed target is =
    let s : SlotEntry = record { slot = read.slot; kind = read.kind; id = read.id } in
    let stands : not removed ≡ is_untouched log x s = ap not is ∙ not_not (is_untouched log x s) in
    ap (λ t. record { slot = read.slot; kind = read.kind; id = read.id; mode = cond (eqb read.id 0) modes.Null (mode_of t (not removed)) }) target
    ∙ ap (λ (b : Bool). record {
      slot = read.slot;
      kind = read.kind;
      id = read.id;
      mode =
          cond (eqb read.id 0) modes.Null (mode_of (index_of dump.objects read.id) b);
    }) stands

-- one more slot
pub rows-more : (f : SlotEntry → SlotRow) (ss : List SlotEntry) (i : ℕ) (s : SlotEntry) → slice_get ss i ≡ Some s → map f (take (i + 1) ss) ≡ map f (take i ss)
    ++ f s ∷ []
rows-more f ss i s here = map_more f ss i s (slice_get_within ss i s here) ∙ ap (λ (e : SlotEntry). map f (take i ss) ++ f e ∷ [])
    (get_or_from_slice_get ss i s s here)
