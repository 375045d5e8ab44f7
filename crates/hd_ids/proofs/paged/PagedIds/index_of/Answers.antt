use Rattle.std.proofs.Common.{◌≡◌, ◌∙◌}
use Rattle.hd_ids.specs.Rows.{number_of, ids_in}
use Rattle.hd_ids.proofs.RowLemmas.{position-by-number, position-of-place}
use Rattle.hd_ids.proofs.paged.PagedIds.index_of.Goals as goal

pub returns-clause-first : goal.returns-clause-first
returns-clause-first c =
    let a = c.self.inside in
    let number : c.number_at.result ≡ number_of (ids_in a.pages.keys a.slots.items) c.args.id =
    c.number_at.ensures ∙ c.self.invariant.slots_are.rows.numbers_are.at c.args.id in
    rw (← c.self.view_is) (position-by-number
    (ids_in a.pages.keys a.slots.items) c.args.id c.number_at.result c.checked_sub.result number c.checked_sub.ensures)

pub returns-clause-distinct : goal.returns-clause-distinct
returns-clause-distinct c o lt is =
    let a = c.self.inside in
    let first = returns-clause-first c in
    first ∙ position-of-place c.args.self.now c.args.id o (rw (← c.self.view_is) c.self.invariant.slots_are.rows.numbers_are.distinct) lt is
