-- A noted ID is one more shared offset, or none (`after`): the offsets of all slots stay, and so do the rows.
use Rattle.std.proofs.Common.{◌≡◌, ◌∙◌, List, ℕ, [], ◌∷◌, ◌++◌, ◌⊎◌, inl, inr, length, map, refl, sym, ap, subst}
use Rattle.std.proofs.lemmas.List.{map-append}
use Rattle.std.proofs.lemmas.List.Elements.{All-push}
use Rattle.std.specs.Arc.{arc_value}
use Rattle.hd_slots.specs.declared.unresolved.UnresolvedSlots.TheInside.{Inside}
use Rattle.hd_slots.specs.Table.{Table, id_at, IsIdWithin}
use Rattle.hd_slots.specs.Parts.{table_from, AreOffsets}
use Rattle.hd_slots.specs.Shared.{Noted}
use Rattle.hd_slots.specs.UnresolvedInside.{table_of, IsUnresolved}
use Rattle.hd_slots.proofs.SharedLemmas.{offsets-same, kept-more}
use Rattle.hd_slots.proofs.unresolved.UnresolvedSlots.note_shared.Goals as goal
use Rattle.hd_slots.proofs.unresolved.UnresolvedSlots.note_shared.Goals.{After-note}

-- the rows with these IDs noted are as they were
abbrev IsSame : Inside → Noted → Type 0
IsSame a noted = IsUnresolved (record a { shared = noted }) × (table_of (record a { shared = noted }) ≡ table_of a)

-- one more shared ID changes no row
after : (a : Inside) → IsUnresolved a → (noted : Noted) (id offset : ℕ) → IsIdWithin a.id_size (length a.bytes.now) offset
    → id ≡ id_at a.bytes.now a.id_size offset
    → (noted ≡ a.shared) ⊎ (noted ≡ record { ids = a.shared.ids ++ id ∷ []; offsets = a.shared.offsets ++ offset ∷ [] }) → IsSame a noted
after a h noted id offset within is (inl same) =
    subst (IsSame a) (sym same) (record { rows = h.rows; kept = h.kept; shared = h.shared; ids_are = h.ids_are }, refl)
after a h noted id offset within is (inr longer) =
    let as_before = offsets-same a.id_size (length a.bytes.now) a.shared.offsets (offset ∷ []) a.items.items h.kept in
    subst (IsSame a) (sym longer) (
      record {
        rows = subst (λ (os : List ℕ). AreOffsets a.bytes.now a.id_size (arc_value a.ids) a.starts.items os) (sym as_before) h.rows;
        kept = kept-more a.id_size (length a.bytes.now) a.shared.offsets (offset ∷ []) a.items.items h.kept;
        shared = All-push (IsIdWithin a.id_size (length a.bytes.now)) a.shared.offsets offset h.shared within;
        ids_are =
            ap (λ (xs : List ℕ). xs ++ id ∷ []) h.ids_are ∙ ap (λ (x : ℕ). map (id_at a.bytes.now a.id_size) a.shared.offsets ++ x ∷ []) is
            ∙ sym (map-append (id_at a.bytes.now a.id_size) a.shared.offsets (offset ∷ []));
      },
      ap (λ (os : List ℕ). table_from a.bytes.now a.id_size (arc_value a.ids) a.starts.items os) as_before,
    )

same : (c : After-note) → IsSame c.self.inside c.note.new.self
same c =
    after c.self.inside c.self.invariant c.note.new.self c.args.id c.args.offset
    (subst (λ (t : Table). IsIdWithin t.size (length t.bytes) c.args.offset) (sym c.self.view_is) c.requires.within)
    (c.requires.id ∙ ap (λ (t : Table). id_at t.bytes t.size c.args.offset) (sym c.self.view_is)) c.note.ensures

pub invariant_of-self : goal.invariant_of-self
invariant_of-self c = (same (goal.at.invariant_of-self c).After-note).0

pub invariant_of-self-2 : goal.invariant_of-self-2
invariant_of-self-2 c = (same (goal.at.invariant_of-self-2 c).After-note).0

pub returns : goal.returns
returns c = (same (goal.at.returns c).After-note).1 ∙ c.self.view_is
