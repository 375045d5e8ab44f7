-- An ID that was noted is kept by its place among the shared offsets, at which the same ID lies in the file.
-- Another one is noted, and pushed by its own offset.
use Rattle.std.proofs.Common.{◌≡◌, ◌∙◌, List, ℕ, [], ◌∷◌, ◌++◌, ◌+◌, length, map, get_or, sym, ap, subst, arith, All}
use Rattle.std.proofs.lemmas.List.{get_or-map}
use Rattle.std.proofs.lemmas.List.Elements.{All-push}
use Rattle.std.specs.Arc.{arc_value}
use Rattle.hd_slots.specs.Table.{Table, id_at}
use Rattle.hd_slots.specs.Parts.{table_from, AreOffsets}
use Rattle.hd_slots.specs.Resolving.{mark}
use Rattle.hd_slots.specs.Shared.{offset_of, IsKept}
use Rattle.hd_slots.specs.UnresolvedInside.{offsets_in}
use Rattle.hd_slots.proofs.TableLemmas.{table-push, offsets-push}
use Rattle.hd_slots.proofs.SharedLemmas as shared
use Rattle.hd_slots.proofs.unresolved.UnresolvedSlots.push_shared.Goals as goal
use Rattle.hd_slots.proofs.unresolved.UnresolvedSlots.push_shared.Goals.{In_ok-push}

-- the shared offset
abbrev at : In_ok-push → ℕ
at c = get_or c.self.inside.shared.offsets c.in-Some.index 0

offsets : (c : In_ok-push) → map (offset_of c.self.inside.shared.offsets) c.push.new.self.items ≡ offsets_in c.self.inside ++ at c ∷ []
offsets c =
    let a = c.self.inside in
    ap (map (offset_of a.shared.offsets)) c.in_ok-push.ensures.items ∙ shared.offsets-push a.shared.offsets a.items.items (mark + c.in-Some.index) (at c)
    (shared.shared-offset a.shared.offsets c.in-Some.index)

-- the ID lies there
id_there : (c : In_ok-push) → id_at c.self.inside.bytes.now c.self.inside.id_size (at c) ≡ c.args.id
id_there c =
    let a = c.self.inside in
    sym (get_or-map (id_at a.bytes.now a.id_size) a.shared.offsets c.in-Some.index 0 0 c.in-Some.ensures.there)
    ∙ ap (λ (ids : List ℕ). get_or ids c.in-Some.index 0) (sym c.self.invariant.ids_are)
    ∙ c.in-Some.ensures.same

pub returns-in-Some : goal.returns-in-Some
returns-in-Some c =
    let a = c.self.inside in
    let b = (goal.at.returns-in-Some c).In_ok-push in
    let t = table_from a.bytes.now a.id_size (arc_value a.ids) a.starts.items (offsets_in a) in
    ap (λ (xs : List ℕ). table_from a.bytes.now a.id_size (arc_value a.ids) a.starts.items xs) (offsets b)
    ∙ table-push a.bytes.now a.id_size (arc_value a.ids) a.starts.items (offsets_in a) c.self.invariant.rows (at b)
    ∙ ap (λ (id : ℕ). record t { filling = t.filling ++ id ∷ []; count = t.count + 1 }) (id_there b)
    ∙ ap (λ (t : Table). record t { filling = t.filling ++ c.args.id ∷ []; count = t.count + 1 }) c.self.view_is

pub invariant_of-self-in-Some : goal.invariant_of-self-in-Some
invariant_of-self-in-Some c =
    let a = c.self.inside in
    let b = (goal.at.invariant_of-self-in-Some c).In_ok-push in
    let there = c.in-Some.ensures.there in
    record {
      rows =
          subst (λ (xs : List ℕ). AreOffsets a.bytes.now a.id_size (arc_value a.ids) a.starts.items xs) (sym (offsets b))
          (offsets-push a.bytes.now a.id_size (arc_value a.ids) a.starts.items (offsets_in a) c.self.invariant.rows (at b)
          (c.self.invariant.shared c.in-Some.index 0 there)
          (omega (arith, c.requires.room, ap (λ (t : Table). length t.ids + t.count) c.self.view_is)));
      kept =
          let K = IsKept a.id_size (length a.bytes.now) (length a.shared.offsets) in
          subst (λ (xs : List ℕ). All K xs) (sym c.in_ok-push.ensures.items)
          (All-push K a.items.items (mark + c.in-Some.index) c.self.invariant.kept
          (record { own = λ lt. absurd (omega (arith, lt)); shared = λ le. omega (arith, there) }));
      shared = c.self.invariant.shared;
      ids_are = c.self.invariant.ids_are;
    }
