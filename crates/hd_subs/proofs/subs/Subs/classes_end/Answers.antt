use Rattle.std.proofs.Common.{◌∙◌, ap, sym, arith}
use Rattle.std.specs.List.{filter_map}
use Rattle.std.proofs.lemmas.List.{drop_all}
use Rattle.hd_subs.specs.ClassSubs.{class_of_sub}
use Rattle.hd_subs.proofs.ClassEnds.{entries-none, none-from-here}
use Rattle.hd_subs.proofs.subs.Subs.classes_end.Goals as goal

pub returns-then-lacks_classes-clause-none_after : goal.returns-then-lacks_classes-clause-none_after
returns-then-lacks_classes-clause-none_after c =
    let a = c.self.inside in
    ap (filter_map class_of_sub) (sym c.self.view_is)
    ∙ entries-none a.id_size a.bytes.now a.rows (c.lacks_classes.ensures c.if-lacks_classes.true) a.entries.items

pub loop-end-init : goal.loop-end-init
loop-end-init c = (
  omega (arith, c.len-end.ensures),
  ap (filter_map class_of_sub)
      (drop_all c.len-end.result c.args.self.now (omega (arith, c.len-end.ensures))),
)

pub loop-end-preserved : goal.loop-end-preserved
loop-end-preserved c = (
  omega arith,
  none-from-here c.args.self.now c.loop-end.end c.is_class.result
      (omega arith) c.loop-end.invariant.0 c.is_class.ensures c.if-is_class.false c.loop-end.invariant.1,
)
