use Rattle.std.proofs.Common.{◌∙◌, List, [], ◌∷◌, ◌++◌, map, sym, ap, arith}
use Rattle.hd_terms.specs.declared.Group.{Group}
use Rattle.hd_terms.specs.declared.Group.TheVariants as kinds
use Rattle.hd_queries.specs.Groups.{class_group}
use Rattle.hd_queries.proofs.GroupLemmas.{next-class, last-class}
use Rattle.hd_queries.proofs.groups.class_groups.Goals as goal

pub loop-class-preserved : goal.loop-class-preserved
loop-class-preserved c =
    let next = next-class c.args.graph.now.classes c.loop-class.place c.in-Some.class c.in-Some.ensures in
    record {
      within = omega (arith, next.0);
      groups = c.in_ok-push.ensures.items ∙ ap (λ (gs : List Group). gs ++ kinds.Class c.in-Some.class ∷ []) c.loop-class.invariant.groups ∙ sym next.1;
    }

pub returns : goal.returns
returns c = c.loop-class.invariant.groups ∙ ap (map class_group) (last-class c.args.graph.now.classes c.loop-class.place c.in_default.ensures)
