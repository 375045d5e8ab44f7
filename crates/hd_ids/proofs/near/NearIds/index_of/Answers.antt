use Rattle.std.proofs.Common.{◌≡◌, ◌∙◌, ℕ, ◌+◌, ◌*◌, ap, slice_index}
use Rattle.hd_ids.specs.Rows.{page_of, place_of, row_of, number_of, ids_in}
use Rattle.hd_ids.proofs.RowLemmas.{position-by-number}
use Rattle.hd_ids.proofs.near.NearIds.index_of.Goals as goal

pub returns-clause-first : goal.returns-clause-first
returns-clause-first c =
    let a = c.self.inside in
    let row : c.row_of_page-row.result ≡ row_of a.pages.now.keys (page_of c.args.id) =
    c.row_of_page-row.ensures.row ∙ ap (row_of a.pages.now.keys) c.page_of.ensures in
    let number : c.number_in.result ≡ number_of (ids_in a.pages.now.keys a.slots.now) c.args.id =
    c.number_in.ensures ∙ ap (λ (r : ℕ). slice_index a.numbers.now (r * 512 + place_of c.args.id)) row ∙ c.self.invariant.numbers_are.at c.args.id in
    rw (← c.self.view_is) (position-by-number
    (ids_in a.pages.now.keys a.slots.now) c.args.id c.number_in.result c.checked_sub.result number c.checked_sub.ensures)
