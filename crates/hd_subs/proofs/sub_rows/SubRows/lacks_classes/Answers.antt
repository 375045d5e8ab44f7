use Rattle.std.proofs.Common.{◌≡◌, ◌∙◌, length, sym, ap, eqb-true}
use Rattle.std.specs.List.{filter_map}
use Rattle.hd_subs.specs.ClassSubs.{class_of_sub}
use Rattle.hd_subs.proofs.ClassEnds.{rows-none}
use Rattle.hd_subs.proofs.sub_rows.SubRows.lacks_classes.Goals as goal

pub returns : goal.returns
returns c = λ empty.
    let classes = c.self.inside.classes in
    let none : length classes.items ≡ 0 = sym classes.ok.0 ∙ eqb-true _ 0 (sym c.is_empty.ensures ∙ empty) in
    ap (filter_map class_of_sub) (sym c.self.view_is) ∙ rows-none (length classes.items) classes.items none c.self.inside.rows.items c.self.invariant
