use Rattle.std.proofs.Common.{◌≡◌, ◌∙◌, List, ◌++◌, map, subst, sym, ap, arith}
use Rattle.std.proofs.lemmas.List.{append-nil, nil_from_length}
use Rattle.hd_slots.specs.Table.{Table}
use Rattle.hd_slots.specs.JoinedInside.{joined_table, AreOfOneFile}
use Rattle.hd_slots.proofs.PartLemmas.{over, joined-over, file-over}
use Rattle.hd_slots.proofs.joined_rows.JoinedRows.with_ids.Goals as goal
use Rattle.hd_slots.proofs.joined_rows.JoinedRows.with_ids.Goals.{After-drop-part-iterator-2}

-- at the end all parts are over the IDs
all : (c : After-drop-part-iterator-2) → map (over c.args.ids) c.self.inside.parts.items ≡ c.loop-part.numbered.items
all c =
    let rest = c.loop-part.part-iterator.rest in
    let none = nil_from_length rest.items (omega (arith, c.in-None.ensures.steps.0, rest.ok.0)) in
    ap (map (over c.args.ids)) (sym c.into_iter-part-iterator.ensures.into_iter_gives.0)
    ∙ c.loop-part.invariant.all
    ∙ ap (λ (ts : List Table). c.loop-part.numbered.items ++ map (over c.args.ids) ts) none
    ∙ append-nil c.loop-part.numbered.items

pub invariant_of-result : goal.invariant_of-result
invariant_of-result c =
    subst AreOfOneFile (all (goal.at.invariant_of-result c).After-drop-part-iterator-2) (file-over c.args.ids c.self.inside.parts.items c.self.invariant)

pub returns : goal.returns
returns c =
    ap joined_table (sym (all (goal.at.returns c).After-drop-part-iterator-2))
    ∙ joined-over c.args.ids c.self.inside.parts.items c.self.invariant
    ∙ ap (over c.args.ids) c.self.view_is
