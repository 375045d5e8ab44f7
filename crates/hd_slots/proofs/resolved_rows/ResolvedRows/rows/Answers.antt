use Rattle.std.proofs.Common.{◌∙◌, ℕ, ◌-◌, List, length, map, sym, ap}
use Rattle.std.specs.Arc.{arc_value}
use Rattle.hd_slots.specs.Table.{Rows}
use Rattle.hd_slots.specs.Codes.{id_of_code}
use Rattle.hd_slots.proofs.CutLemmas.{length-rows_from}
use Rattle.hd_slots.proofs.resolved_rows.ResolvedRows.rows.Goals as goal

pub returns-clause-len : goal.returns-clause-len
returns-clause-len c =
    let a = c.self.inside in
    ap (λ (xs : List ℕ). length xs - 1) c.as_slice.ensures.value
    ∙ sym (length-rows_from a.starts.items (map (id_of_code (arc_value a.ids) a.absent.items) a.items.items))
    ∙ ap (λ (t : Rows). length t.rows) c.self.view_is
