-- The numbers that are found stand for the IDs at the offsets, as many as there were and in their order (`written`),
-- so the rows that they make are the rows that were pushed.
use Rattle.std.proofs.Common.{◌≡◌, ◌∙◌, List, ℕ, ◌++◌, length, take, drop, map, ap, sym, subst}
use Rattle.std.proofs.Math.Seq.{take-append_seam}
use Rattle.std.proofs.lemmas.List.{length-map}
use Rattle.std.specs.Arc.{arc_value}
use Rattle.hd_slots.specs.Table.{Rows, Table, id_at}
use Rattle.hd_slots.specs.Parts.{rows_of, AreParts}
use Rattle.hd_slots.specs.Resolving.{AreCodesOf}
use Rattle.hd_slots.specs.Shared.{offset_of}
use Rattle.hd_slots.specs.UnresolvedInside.{offsets_in}
use Rattle.hd_slots.proofs.TableLemmas.{parts-resolved, rows-resolved}
use Rattle.hd_slots.proofs.unresolved.UnresolvedSlots.resolve.Given.{Over}
use Rattle.hd_slots.proofs.unresolved.UnresolvedSlots.resolve.Goals as goal
use Rattle.hd_slots.proofs.unresolved.UnresolvedSlots.resolve.Goals.{In_ok-absent}

as-many : (g : Over) (c : In_ok-absent g) → length c.resolve_offsets.new.items ≡ length c.self.inside.items.items
as-many g c = c.in_ok-absent.ensures.same_len ∙ ap (λ (xs : List ℕ). length xs) c.as_mut_slice-2.ensures.value

as-many-offsets : (g : Over) (c : In_ok-absent g) → length c.resolve_offsets.new.items ≡ length (offsets_in c.self.inside)
as-many-offsets g c = as-many g c ∙ sym (length-map c.self.inside.items.items (offset_of c.self.inside.shared.offsets))

-- the list has the numbers in the offset of the offsets
written : (g : Over) (c : In_ok-absent g)
    → take c.self.inside.items.len
    (c.resolve_offsets.new.items ++ drop (length c.resolve_offsets.new.items) c.self.inside.items.items) ≡ c.resolve_offsets.new.items
written g c =
    ap (λ (n : ℕ). take n (c.resolve_offsets.new.items ++ drop (length c.resolve_offsets.new.items) c.self.inside.items.items))
    (c.self.inside.items.ok.0 ∙ sym (as-many g c))
    ∙ take-append_seam c.resolve_offsets.new.items (drop (length c.resolve_offsets.new.items) c.self.inside.items.items)

codes : (g : Over) (c : In_ok-absent g)
    → AreCodesOf (arc_value c.self.inside.ids)
    (map (id_at c.self.inside.bytes.now c.self.inside.id_size) (offsets_in c.self.inside)) c.resolve_offsets.new.items c.in_ok-absent.absent.items
codes g c =
    let a = c.self.inside in
    let wanted : map (offset_of c.as_mut_slice.result.now) c.as_mut_slice-2.result.now ≡ offsets_in a =
    ap (λ (xs : List ℕ). map (offset_of xs) c.as_mut_slice-2.result.now) (c.as_mut_slice.ensures.value ∙ c.into_offsets-shared.ensures)
    ∙ ap (map (offset_of a.shared.offsets)) c.as_mut_slice-2.ensures.value in
    subst (λ (xs : List ℕ). AreCodesOf (arc_value a.ids) (map (id_at a.bytes.now a.id_size) xs) c.resolve_offsets.new.items c.in_ok-absent.absent.items) wanted
    (subst (λ (ids : List ℕ). AreCodesOf ids (map (id_at a.bytes.now a.id_size) (map (offset_of c.as_mut_slice.result.now) c.as_mut_slice-2.result.now))
    c.resolve_offsets.new.items c.in_ok-absent.absent.items) c.deref.ensures c.in_ok-absent.ensures.codes)

pub new-slot_table-requires : goal.new-slot_table-requires
new-slot_table-requires g c =
    let a = c.self.inside in
    let b = (goal.at.new-slot_table-requires g c).In_ok-absent in
    subst (λ (xs : List ℕ). AreParts (arc_value a.ids) a.starts.items xs c.in_ok-absent.absent.items)
    (sym (written g b))
    (parts-resolved a.bytes.now a.id_size (arc_value a.ids) a.starts.items
    (offsets_in a) c.self.invariant.rows c.resolve_offsets.new.items c.in_ok-absent.absent.items (codes g b) (as-many-offsets g b)
    (ap (λ (t : Table). t.filling) c.self.view_is ∙ c.requires.filled))

pub returns : goal.returns
returns g c =
    let a = c.self.inside in
    let b = (goal.at.returns g c).In_ok-absent in
    c.new-slot_table.ensures
    ∙ ap (λ (xs : List ℕ). rows_of (arc_value a.ids) a.starts.items xs c.in_ok-absent.absent.items) (written g b)
    ∙ rows-resolved a.bytes.now a.id_size (arc_value a.ids) a.starts.items
    (offsets_in a) c.self.invariant.rows c.resolve_offsets.new.items c.in_ok-absent.absent.items (codes g b) (as-many-offsets g b)
    ∙ ap (λ (t : Table). let r : Rows = record { ids = t.ids; rows = t.rows } in r) c.self.view_is
