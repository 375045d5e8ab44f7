use Rattle.std.proofs.Common.{[], ap, sym, subst}
use Rattle.std.specs.List.{cons_option}
use Rattle.hd_terms.specs.FirstRecords.{id_of_item}
use Rattle.hd_terms.specs.SubRecords.{Sub, Item}
use Rattle.hd_classes.specs.Known.{known_at}
use Rattle.hd_subs.specs.Views.{sub_view, item_view}
use Rattle.hd_graph.specs.ArrayRows.{root_of_item}
use Rattle.hd_graph.specs.Numbering.{NotesObject}
use Rattle.hd_graph.proofs.NumberLemmas.{object-push}
use Rattle.hd_graph.proofs.stretch.add_one.Goals as goal

pub returns-in-Instance-clause-ok : goal.returns-in-Instance-clause-ok
returns-in-Instance-clause-ok c = λ front h.
    let s : Sub = sub_view c.args.sub in
    let notes = c.in_ok-number_fitted.ensures.ok c.args.layouts.now.classes c.args.layouts.now.size c.in-Instance.class c.in-Instance.values
    c.in_ok-fit.ensures.fit in
    object-push (known_at c.args.layouts.now.classes) c.args.layouts.now.size front c.args.ids.now c.args.roots.now.items c.args.tally.now h s c.in-Instance.id
    _ _
    (subst (λ (i : Item). NotesObject (known_at c.args.layouts.now.classes) c.args.layouts.now.size i c.in-Instance.id c.args.ids.now c.args.tally.now
    c.number_fitted.new.ids c.number_fitted.new.tally) (sym (ap item_view c.in-Instance.is)) notes)
    (ap (λ i. id_of_item (item_view i)) c.in-Instance.is)
    (ap (λ i. cons_option (root_of_item (item_view i)) []) c.in-Instance.is)
