-- The resolved parts are those of the file, in order and over the same IDs, so their rows are those of all.
use Rattle.std.proofs.Common.{◌≡◌, ◌∙◌, length, map, Ok, sym, ap, subst, arith}
use Rattle.std.specs.Arc.{arc_value}
use Rattle.hd_slots.specs.Table.{Table}
use Rattle.hd_slots.specs.JoinedInside.{first_table, joined_rows, rows_in, AreOfOneDump}
use Rattle.hd_slots.proofs.PartLemmas.{all-resolved, rows-resolved, dump-resolved}
use Rattle.hd_slots.proofs.joined_rows.JoinedRows.resolve.Given.{Over}
use Rattle.hd_slots.proofs.joined_rows.JoinedRows.resolve.Goals as goal
use Rattle.hd_slots.proofs.joined_rows.JoinedRows.resolve.Goals.{In_ok-parts}

-- the resolved parts are those of the file
all : (g : Over) (c : In_ok-parts g) → map rows_in c.self.inside.parts.items ≡ c.in_ok-parts.parts.items
all g c =
    let parts = c.self.inside.parts.items in
    let as_many : length c.in_ok-resolved.resolved.items ≡ length parts = omega (arith, c.in_ok-resolved.ensures.len, c.in_ok-resolved.resolved.ok.0) in
    all-resolved parts c.in_ok-resolved.resolved.items c.in_ok-parts.parts.items c.in_ok-parts.ensures as_many
    (λ i lt. let at = (c.in_ok-resolved.ensures.each i (Ok (rows_in (first_table parts))) lt).1 in (at.job, (at.job_is (first_table parts), at.call.met)))

-- the IDs are those of the first part
ids-are : (g : Over) (c : In_ok-parts g) → (first_table c.self.inside.parts.items).ids ≡ arc_value c.in_ok-ids.ids
ids-are g c =
    sym (c.self.invariant.file 0 c.index.result.now c.self.invariant.some).ids_are
    ∙ ap (λ (t : Table). t.ids) (sym c.index.ensures) ∙ sym c.in_ok-ids.ensures.ids

pub new-requires : goal.new-requires
new-requires g c =
    let at = (goal.at.new-requires g c).In_ok-parts in
    let ids = arc_value c.in_ok-ids.ids in
    subst (AreOfOneDump ids) (all g at) (dump-resolved ids c.self.inside.parts.items c.self.invariant (ids-are g at) c.in_ok-ids.ensures.few)

pub returns : goal.returns
returns g c =
    let at = (goal.at.returns g c).In_ok-parts in
    let ids = arc_value c.in_ok-ids.ids in
    let same = rows-resolved ids c.self.inside.parts.items c.self.invariant (ids-are g at) in
    c.in_ok-slot_table.ensures ∙ ap (joined_rows ids) (sym (all g at)) ∙ same ∙ ap rows_in c.self.view_is
