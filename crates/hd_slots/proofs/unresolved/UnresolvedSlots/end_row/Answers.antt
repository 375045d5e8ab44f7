use Rattle.std.proofs.Common.{◌≡◌, ◌∙◌, List, ℕ, [], ◌∷◌, ◌++◌, length, sym, ap, subst}
use Rattle.std.proofs.lemmas.List.{length-map}
use Rattle.std.specs.Arc.{arc_value}
use Rattle.hd_slots.specs.Table.{Table}
use Rattle.hd_slots.specs.Parts.{table_from, AreOffsets}
use Rattle.hd_slots.specs.UnresolvedInside.{offsets_in}
use Rattle.hd_slots.specs.Shared.{offset_of}
use Rattle.hd_slots.proofs.TableLemmas.{table-end, offsets-end}
use Rattle.hd_slots.proofs.unresolved.UnresolvedSlots.end_row.Goals as goal
use Rattle.hd_slots.proofs.unresolved.UnresolvedSlots.end_row.Goals.{In_ok-push}

starts : (c : In_ok-push) → c.push.new.self.items ≡ c.self.inside.starts.items ++ length (offsets_in c.self.inside) ∷ []
starts c = c.in_ok-push.ensures.items ∙ ap (λ (n : ℕ). c.self.inside.starts.items ++ n ∷ []) (c.len-start.ensures ∙ c.self.inside.items.ok.0
    ∙ sym (length-map c.self.inside.items.items (offset_of c.self.inside.shared.offsets)))

pub returns : goal.returns
returns c =
    let a = c.self.inside in
    ap (λ (ss : List ℕ). table_from a.bytes.now a.id_size (arc_value a.ids) ss (offsets_in a)) (starts (goal.at.returns c).In_ok-push)
    ∙ table-end a.bytes.now a.id_size (arc_value a.ids) a.starts.items (offsets_in a) c.self.invariant.rows
    ∙ ap (λ (t : Table). record t { rows = t.rows ++ t.filling ∷ []; filling = [] }) c.self.view_is

pub invariant_of-self-2 : goal.invariant_of-self-2
invariant_of-self-2 c =
    let a = c.self.inside in
    record {
      rows = subst (λ (ss : List ℕ). AreOffsets a.bytes.now a.id_size (arc_value a.ids) ss (offsets_in a))
          (sym (starts (goal.at.invariant_of-self-2 c).In_ok-push))
          (offsets-end a.bytes.now a.id_size (arc_value a.ids) a.starts.items (offsets_in a) c.self.invariant.rows);
      kept = c.self.invariant.kept;
      shared = c.self.invariant.shared;
      ids_are = c.self.invariant.ids_are;
    }
