-- One more offset is one more slot, since offsets are below the mark of shared ones.
-- By `table-push` the row that is being filled has its ID behind the others.
use Rattle.std.proofs.Common.{◌≡◌, ◌∙◌, ◌<◌, List, ℕ, [], ◌∷◌, ◌++◌, ◌+◌, length, map, sym, ap, subst, arith, All}
use Rattle.std.proofs.lemmas.List.Elements.{All-push}
use Rattle.std.specs.Arc.{arc_value}
use Rattle.hd_slots.specs.Table.{Table, id_at, IsIdWithin}
use Rattle.hd_slots.specs.Parts.{table_from, AreOffsets}
use Rattle.hd_slots.specs.Resolving.{mark}
use Rattle.hd_slots.specs.Shared.{offset_of, IsKept}
use Rattle.hd_slots.specs.UnresolvedInside.{offsets_in}
use Rattle.hd_slots.proofs.TableLemmas.{table-push, offsets-push}
use Rattle.hd_slots.proofs.SharedLemmas as shared
use Rattle.hd_slots.proofs.unresolved.UnresolvedSlots.push.Goals as goal
use Rattle.hd_slots.proofs.unresolved.UnresolvedSlots.push.Goals.{In_ok-push}

within : (c : In_ok-push) → IsIdWithin c.self.inside.id_size (length c.self.inside.bytes.now) c.args.offset
within c = subst (λ (t : Table). IsIdWithin t.size (length t.bytes) c.args.offset) (sym c.self.view_is) c.requires.within

offsets : (c : In_ok-push) → map (offset_of c.self.inside.shared.offsets) c.push.new.self.items ≡ offsets_in c.self.inside ++ c.args.offset ∷ []
offsets c =
    let a = c.self.inside in
    let low : c.args.offset < mark = omega (arith, within c, c.self.invariant.rows.small) in
    ap (map (offset_of a.shared.offsets)) c.in_ok-push.ensures.items ∙ shared.offsets-push a.shared.offsets a.items.items c.args.offset c.args.offset
    (shared.own-offset a.shared.offsets c.args.offset low)

pub returns : goal.returns
returns c =
    let a = c.self.inside in
    ap (λ (xs : List ℕ). table_from a.bytes.now a.id_size (arc_value a.ids) a.starts.items xs) (offsets (goal.at.returns c).In_ok-push)
    ∙ table-push a.bytes.now a.id_size (arc_value a.ids) a.starts.items (offsets_in a) c.self.invariant.rows c.args.offset
    ∙ ap (λ (t : Table). record t { filling = t.filling ++ id_at t.bytes t.size c.args.offset ∷ []; count = t.count + 1 }) c.self.view_is

pub invariant_of-self-2 : goal.invariant_of-self-2
invariant_of-self-2 c =
    let a = c.self.inside in
    let b = (goal.at.invariant_of-self-2 c).In_ok-push in
    record {
      rows =
          subst (λ (xs : List ℕ). AreOffsets a.bytes.now a.id_size (arc_value a.ids) a.starts.items xs) (sym (offsets b))
          (offsets-push a.bytes.now a.id_size (arc_value a.ids) a.starts.items (offsets_in a) c.self.invariant.rows c.args.offset (within b)
          (omega (arith, c.requires.room, ap (λ (t : Table). length t.ids + t.count) c.self.view_is)));
      kept =
          let K = IsKept a.id_size (length a.bytes.now) (length a.shared.offsets) in
          subst (λ (xs : List ℕ). All K xs) (sym c.in_ok-push.ensures.items)
          (All-push K a.items.items c.args.offset c.self.invariant.kept
          (shared.kept-own a.id_size (length a.bytes.now) (length a.shared.offsets) c.args.offset c.self.invariant.rows.small (within b)));
      shared = c.self.invariant.shared;
      ids_are = c.self.invariant.ids_are;
    }
