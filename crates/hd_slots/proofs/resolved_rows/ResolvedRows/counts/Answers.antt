use Rattle.std.proofs.Common.{◌∙◌, sym, ap}
use Rattle.std.specs.Arc.{arc_value}
use Rattle.hd_slots.specs.Table.{is_known, is_absent, known_in, absent_in}
use Rattle.hd_slots.proofs.TableLemmas.{ids-counted}
use Rattle.hd_slots.proofs.resolved_rows.ResolvedRows.counts.Goals as goal

pub returns-clause-objects : goal.returns-clause-objects
returns-clause-objects c =
    let a = c.self.inside in
    c.count_codes.ensures.objects
    ∙ rw (c.deref.ensures, c.as_slice.ensures.value, c.as_slice-2.ensures.value)
    (sym (ids-counted (arc_value a.ids) a.starts.items a.items.items a.absent.items c.self.invariant.parts (is_known (arc_value a.ids))))
    ∙ ap known_in c.self.view_is

pub returns-clause-others : goal.returns-clause-others
returns-clause-others c =
    let a = c.self.inside in
    c.count_codes.ensures.others
    ∙ rw (c.deref.ensures, c.as_slice.ensures.value, c.as_slice-2.ensures.value)
    (sym (ids-counted (arc_value a.ids) a.starts.items a.items.items a.absent.items c.self.invariant.parts (is_absent (arc_value a.ids))))
    ∙ ap absent_in c.self.view_is
